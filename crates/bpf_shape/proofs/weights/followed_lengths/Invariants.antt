use Rattle.bpf_shape.specs.Lengths.{AreLengths}
use Rattle.bpf_shape.proofs.weights.followed_lengths.Given as goal

abbrev pub invariant-loop-depth : goal.invariant-loop-depth
invariant-loop-depth l = AreLengths l.program l._depth l.lengths.items
