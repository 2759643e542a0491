use Rattle.crash_text.proofs.Differing.{none_counted, one_counted}
use Rattle.crash_text.proofs.sector.count_differences.Goals as goal

pub loop-step-init : goal.loop-step-init
loop-step-init c = none_counted c.args.left.now c.args.right.now c.args.start

pub loop-step-preserved : goal.loop-step-preserved
loop-step-preserved c =
    one_counted c.args.left.now c.args.right.now c.args.start c.loop-step.step c.loop-step.found c.count_at-found.result c.loop-step.invariant c.count_at-found.ensures.value c.count_at-found.ensures.bound
