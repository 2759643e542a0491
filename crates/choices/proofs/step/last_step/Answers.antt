use Rattle.std.proofs.Common.{refl, arith, length, ◌-◌}
use Rattle.choices.proofs.Rows.{none_following, step_found, step_missed}
use Rattle.choices.proofs.step.last_step.Goals as goal

pub loop-beyond-init : goal.loop-beyond-init
loop-beyond-init c =
    let picks = c.args.picks.now in
    none_following c.args.fates c.args.parts picks (length picks - 0) (omega arith)

pub returns-in-Some-clause-value : goal.returns-in-Some-clause-value
returns-in-Some-clause-value c = step_found _ _ _ _ _ _ _ refl c.loop-beyond-test.true c.loop-beyond.invariant c.in-Some.ensures.value

pub loop-beyond-preserved : goal.loop-beyond-preserved
loop-beyond-preserved c = step_missed _ _ _ _ _ _ refl c.loop-beyond-test.true c.loop-beyond.invariant c.in_default.ensures.value
