use Rattle.std.proofs.Common.{◌≡◌, length}
use Rattle.bpf_shape.specs.Lengths.{AreGreatest, AreWeighed}
use Rattle.bpf_shape.proofs.weights.weigh.Given as goal

abbrev pub invariant-loop-slot : goal.invariant-loop-slot
invariant-loop-slot l =
    AreWeighed l.program l.lengths.items l.slot l.weights.items × AreGreatest l.program l.lengths.items l.longest.items × (length l.longest.items ≡ length l.program)
