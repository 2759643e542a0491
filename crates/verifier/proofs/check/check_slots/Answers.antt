use Rattle.std.proofs.Common.{◌≡◌, length, inl, inr, arith}
use Rattle.std.proofs.lemmas.Bool.{cases_lt}
use Rattle.verifier.proofs.Settled.{good_past}
use Rattle.verifier.proofs.check.check_slots.Goals as goal

pub returns-clause-good : goal.returns-clause-good
returns-clause-good c = λ slot.
    let all : c.loop-slot.slot ≡ length c.args.scene.now.program.now = omega arith in
    elim (cases_lt slot (length c.args.scene.now.program.now)) [
      | inl inside ↦ c.loop-slot.invariant slot (omega (arith, all, inside))
      | inr past ↦ good_past c.args.scene.now.guards c.args.scene.now.program.now c.args.scene.now.sectors c.args.table.now slot past
    ]
