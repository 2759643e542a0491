use Rattle.std.proofs.Common.{length}
use Rattle.bpf_shape.specs.Again.{plain}
use Rattle.bpf_shape.proofs.Partial.{Swept}
use Rattle.bpf_shape.proofs.lengths.sweep.Given as goal

abbrev pub invariant-loop-slot : goal.invariant-loop-slot
invariant-loop-slot l = Swept (plain l.program) (length l.program) l.weights.items l.initial.lengths.items l.lengths.items l.slot l.found

abbrev pub decreases-loop-slot : goal.decreases-loop-slot
decreases-loop-slot l = l.slot
