-- Entries with FUA, of which no image loses or tears anything (docs/CRASH-MODEL.md, Terms).
use Rattle.std.specs.Prelude.{◌&&◌, Bool, nat_lt}
use Rattle.logfmt.specs.declared.entry.Entry.{Entry}

-- a write or a discard of some sectors, with FUA
abbrev pub is_forced_entry : Entry → Bool
is_forced_entry e = e.flags.fua && nat_lt 0 e.count
