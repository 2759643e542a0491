use Rattle.std.proofs.Common.{arith, ◌∙◌}
use Rattle.inspect.proofs.Steps.{begin, go_on, ended, spent, not_some}
use Rattle.inspect.proofs.trial.course.follow.Goals as goal

pub loop-made-init : goal.loop-made-init
loop-made-init g c = begin c.args.walk.now c.args.limit

pub returns-in-Some-clause-outcome : goal.returns-in-Some-clause-outcome
returns-in-Some-clause-outcome g c =
    c.outcome_of.ensures
    ∙ (ended c.args.walk.now c.args.limit c.loop-made.made c.loop-made.walk c.step.new.self c.step.result c.in-Some.halt c.loop-made-test.true c.loop-made.invariant c.in-Some.is c.step.ensures.made c.step.ensures.slot).0

pub returns-in-Some-clause-steps : goal.returns-in-Some-clause-steps
returns-in-Some-clause-steps g c =
    (ended c.args.walk.now c.args.limit c.loop-made.made c.loop-made.walk c.step.new.self c.step.result c.in-Some.halt c.loop-made-test.true c.loop-made.invariant c.in-Some.is c.step.ensures.made c.step.ensures.slot).1

pub loop-made-preserved : goal.loop-made-preserved
loop-made-preserved g c =
    go_on c.args.walk.now c.args.limit c.loop-made.made c.loop-made.walk c.step.new.self c.step.result c.loop-made-test.true c.loop-made.invariant (not_some c.step.result c.in_default.not-Some)
    c.step.ensures.made c.step.ensures.same

pub returns-clause-outcome : goal.returns-clause-outcome
returns-clause-outcome g c =
    let past = c.loop-made-test.false in
    (spent c.args.walk.now c.args.limit c.loop-made.made c.loop-made.walk (omega (arith, past)) c.loop-made.invariant).0

pub returns-clause-steps : goal.returns-clause-steps
returns-clause-steps g c =
    let past = c.loop-made-test.false in
    (spent c.args.walk.now c.args.limit c.loop-made.made c.loop-made.walk (omega (arith, past)) c.loop-made.invariant).1
