-- Flush entries, without which --cuts flush has one cut (docs/COMMANDS.md, Options).
use Rattle.std.specs.Prelude.{Bool}
use Rattle.logfmt.specs.declared.entry.Entry.{Entry}

abbrev pub is_flush_entry : Entry → Bool
is_flush_entry e = e.flags.flush
