-- Entries of more sectors than may be lost together (docs/CRASH-MODEL.md, What a clean report doesn't say).
use Rattle.std.specs.Prelude.{ℕ, Bool, not, ◌&&◌, nat_lt}
use Rattle.logfmt.specs.declared.entry.Entry.{Entry}

-- an entry that isn't forced, with more sectors than the bound
abbrev pub is_large : ℕ → Entry → Bool
is_large bound e = not e.flags.fua && nat_lt bound e.count
