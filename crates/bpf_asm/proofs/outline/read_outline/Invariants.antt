use Rattle.std.proofs.Common.{length, ◌+◌}
use Rattle.std.specs.Option.{option_map_or}
use Rattle.bpf_asm.proofs.Outlines.{SoFar}
use Rattle.bpf_asm.proofs.outline.read_outline.Given as goal

abbrev pub invariant-loop-left : goal.invariant-loop-left
invariant-loop-left l = SoFar l.text l.left l.line l.outline

abbrev pub decreases-loop-left : goal.decreases-loop-left
decreases-loop-left l = option_map_or (λ r. length r.now + 1) l.left 0
