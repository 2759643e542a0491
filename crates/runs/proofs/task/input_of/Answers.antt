use Rattle.std.proofs.Common.{◌∙◌, sym, ap}
use Rattle.epochs.specs.Plan.{PlanValue}
use Rattle.runs.proofs.Fitting.{fit_plan}
use Rattle.runs.proofs.Judging.{judged_within, judged_counted}
use Rattle.runs.proofs.Tried.{starts_here}
use Rattle.runs.proofs.task.input_of.Goals as goal

pub new-requires-clause-starts : goal.new-requires-clause-starts
new-requires-clause-starts c =
    let task = c.args.task.now in
    starts_here task.options.now task.log.now task.plan.now c.bound-bound.result c.tears-tears.result c.args.starts.now task.plan_is c.bound-bound.ensures.value c.tears-tears.ensures c.requires.starts

pub new-requires-clause-by : goal.new-requires-clause-by
new-requires-clause-by c =
    let task = c.args.task.now in
    c.by.ensures ∙ sym (ap (λ (p : PlanValue). p.by) task.plan_is)

pub new-requires-clause-order : goal.new-requires-clause-order
new-requires-clause-order c = c.args.task.now.judged.rising

pub new-requires-clause-images : goal.new-requires-clause-images
new-requires-clause-images c =
    let task = c.args.task.now in
    judged_within _ _ _ _ _ _ task.options.now.extent task.span task.plan_is c.bound-bound.ensures.value c.tears-tears.ensures task.judged

pub new-requires-clause-few : goal.new-requires-clause-few
new-requires-clause-few c = c.args.task.now.judged.few

pub new-requires-clause-counted : goal.new-requires-clause-counted
new-requires-clause-counted c =
    let task = c.args.task.now in
    judged_counted _ _ _ _ _ _ task.options.now.extent task.span task.plan_is c.bound-bound.ensures.value c.tears-tears.ensures task.judged

pub new-requires-clause-device : goal.new-requires-clause-device
new-requires-clause-device c =
    let task = c.args.task.now in
    fit_plan task.options.now task.log.now task.plan.now task.checkers.now task.plan_is task.device c.requires.verified
