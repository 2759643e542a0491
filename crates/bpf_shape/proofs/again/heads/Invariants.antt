use Rattle.std.proofs.Common.{length}
use Rattle.bpf_shape.specs.Again.{again_edge}
use Rattle.bpf_shape.proofs.Ranges.{MarksUpTo}
use Rattle.bpf_shape.proofs.again.heads.Given as goal

abbrev pub invariant-loop-slot : goal.invariant-loop-slot
invariant-loop-slot l = MarksUpTo (again_edge l.program) (length l.program) l.slot l.marks.items
