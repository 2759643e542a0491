use Rattle.std.proofs.Common.{ℕ, ◌<◌, true}
use Rattle.base.specs.declared.causes.VerifierCause.TheVariants as cause
use Rattle.bpf_shape.specs.Rules.{Breaks}
use Rattle.bpf_shape.proofs.depth.keep_calls.Given as goal

abbrev pub invariant-loop-slot : goal.invariant-loop-slot
invariant-loop-slot l = (s : ℕ) → s < l.slot → Breaks true l.program cause.CallDepth s → ⊥
