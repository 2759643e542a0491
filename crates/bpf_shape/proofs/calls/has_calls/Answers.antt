use Rattle.std.proofs.Common.{◌≡◌, length, arith, inl, inr}
use Rattle.std.proofs.lemmas.Bool.{cases_lt}
use Rattle.bpf_shape.proofs.Kept.{callee_past}
use Rattle.bpf_shape.proofs.calls.has_calls.Goals as goal

pub returns : goal.returns
returns c = λ _ s.
    let all : c.loop-slot.slot ≡ length c.args.program.now = omega arith in
    elim (cases_lt s (length c.args.program.now)) [
      | inl inside ↦ c.loop-slot.invariant s (omega (arith, inside, all))
      | inr past ↦ callee_past c.args.program.now s past
    ]
