use Rattle.std.proofs.Common.{length, replicate, false, []}
use Rattle.bpf_shape.specs.Search.{Met, Enters}
use Rattle.bpf_shape.proofs.search.reach_of_entries.Given as goal

abbrev pub invariant-loop-slot : goal.invariant-loop-slot
invariant-loop-slot l = Met (Enters l.program l.outer.items l.slot) (replicate (length l.program) false) [] l.marks.items l.waiting.items
