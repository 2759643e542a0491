use Rattle.std.proofs.Common.{◌≡◌, ◌++◌, take, string_bytes}
use Rattle.std.specs.List.{flat_map}
use Rattle.report.specs.Words.{next_flush}
use Rattle.retold.proofs.places.put_more.Given as goal

abbrev pub invariant-loop-entry : goal.invariant-loop-entry
invariant-loop-entry l = string_bytes l.out ≡ string_bytes l.initial.out ++ flat_map next_flush (take l.entry-index l.entries)
