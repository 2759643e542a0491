use Rattle.std.proofs.Common.{ℕ, ◌≡◌, ◌<◌, None}
use Rattle.bpf_shape.specs.Calls.{callee}
use Rattle.bpf_shape.proofs.calls.has_calls.Given as goal

abbrev pub invariant-loop-slot : goal.invariant-loop-slot
invariant-loop-slot l = (s : ℕ) → s < l.slot → callee l.program s ≡ None
