use Rattle.std.proofs.Common.{ap, ◌∙◌}
use Rattle.interp.specs.Walks.{WalkValue, steps_end_as}
use Rattle.inspect.specs.Trace.{steps_made}
use Rattle.inspect.proofs.Steps.{whole_run}
use Rattle.inspect.proofs.trial.course.course_of.Goals as goal

pub returns-clause-outcome : goal.returns-clause-outcome
returns-clause-outcome g c =
    c.follow.ensures.outcome
    ∙ ap (λ (w : WalkValue). steps_end_as w.guards w.program w.context w.device c.args.limit w.memory w.state) c.in_ok-walk.ensures
    ∙ whole_run c.args.guards c.args.program.now (g.D.Device.content c.args.device.now) c.args.context.now c.args.limit

pub returns-clause-steps : goal.returns-clause-steps
returns-clause-steps g c =
    c.follow.ensures.steps ∙ ap (λ (w : WalkValue). steps_made w.guards w.program w.context w.device c.args.limit w.memory w.state) c.in_ok-walk.ensures
