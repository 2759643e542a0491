use Rattle.std.proofs.Common.{ℕ, ◌≡◌, ◌<◌, true}
use Rattle.bpf_shape.specs.Rules.{keeps}
use Rattle.bpf_shape.proofs.rules.keep.Given as goal

abbrev pub invariant-loop-slot : goal.invariant-loop-slot
invariant-loop-slot l = (s : ℕ) → s < l.slot → keeps l.guards l.program l.rule s ≡ true
