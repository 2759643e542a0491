use Rattle.std.proofs.Common.{ℕ, ◌<◌}
use Rattle.bpf_shape.specs.Again.{plain}
use Rattle.bpf_shape.specs.Paths.{OnCycle}
use Rattle.bpf_shape.proofs.shaping.keep_loops.Given as goal

abbrev pub invariant-loop-slot : goal.invariant-loop-slot
invariant-loop-slot l = (s : ℕ) → s < l.slot → OnCycle (plain l.program) s → ⊥
