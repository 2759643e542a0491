use Rattle.std.proofs.Common.{◌≡◌, length, inl, inr, arith}
use Rattle.std.proofs.lemmas.Bool.{cases_lt}
use Rattle.verifier.proofs.Reaching.{nothing_past}
use Rattle.verifier.proofs.check.check_rules.Goals as goal

pub returns-clause-kept : goal.returns-clause-kept
returns-clause-kept c = λ slot.
    let all : c.loop-slot.slot ≡ length c.args.scene.now.program.now = omega arith in
    elim (cases_lt slot (length c.args.scene.now.program.now)) [
      | inl inside ↦ c.loop-slot.invariant slot (omega (arith, all, inside))
      | inr past ↦ (nothing_past c.args.scene.now.guards c.args.scene.now.program.now 0 c.args.table.now slot past).0
    ]
