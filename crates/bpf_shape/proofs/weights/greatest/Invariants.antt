use Rattle.bpf_shape.specs.Lengths.{IsGreatest}
use Rattle.bpf_shape.proofs.weights.greatest.Given as goal

abbrev pub invariant-loop-slot : goal.invariant-loop-slot
invariant-loop-slot l = IsGreatest l.lengths.items l.marks.items l.slot l.longest
