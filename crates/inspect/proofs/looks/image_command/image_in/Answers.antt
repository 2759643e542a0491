use Rattle.std.proofs.Common.{sym, subst}
use Rattle.std.proofs.lemmas.Result.{err_from_is_err_and}
use Rattle.epochs.specs.Plan.{PlanValue}
use Rattle.logfmt.specs.Bounds.{IsLog}
use Rattle.request.specs.Source.{for_log, for_plan}
use Rattle.request.proofs.Logs.{bounds_of, has_images}
use Rattle.inspect.proofs.Meant.{choice_refused, image_is, meant_member}
use Rattle.inspect.specs.Image.{for_source, for_memory}
use Rattle.inspect.proofs.looks.image_command.image_in.Goals as goal

pub returns-in_err-log-clause-refused : goal.returns-in_err-log-clause-refused
returns-in_err-log-clause-refused c =
    let p = err_from_is_err_and c.from_residual.result c.from_residual.ensures.1 in
    rw (p.1, p.2) (for_source _ (for_log _ c.in_err-log.ensures.refused))

pub returns-in_err-plan-clause-refused : goal.returns-in_err-plan-clause-refused
returns-in_err-plan-clause-refused c =
    let p = err_from_is_err_and c.from_residual-in_err-plan.result c.from_residual-in_err-plan.ensures.1 in
    rw (p.1, p.2)
    (for_source _
    (for_plan _ c.in_ok-log.log c.in_ok-log.ensures.log c.in_err-plan.ensures.refused))

pub choice_meant-requires-clause-log : goal.choice_meant-requires-clause-log
choice_meant-requires-clause-log c = subst (λ (p : PlanValue). IsLog p.log) (sym c.in_ok-plan.ensures.plan) (bounds_of _ c.args.options.now c.in_ok-log.log c.in_ok-log.ensures.log)

pub returns-in_err-choice-clause-refused : goal.returns-in_err-choice-clause-refused
returns-in_err-choice-clause-refused c =
    let p = err_from_is_err_and c.from_residual-in_err-choice.result c.from_residual-in_err-choice.ensures.1 in
    let has = has_images _ c.args.options.now c.in_ok-log.log _ c.in_ok-log.ensures.log c.in_ok-plan.ensures.count c.in_ok-plan.ensures.few c.in_ok-plan.ensures.within in
    rw (p.1, p.2) (choice_refused _ _ c.in_ok-log.log _ c.args.which _ has c.in_ok-plan.ensures.plan c.in_err-choice.ensures.refused)

pub told-requires-clause-bounds : goal.told-requires-clause-bounds
told-requires-clause-bounds c = bounds_of _ c.args.options.now c.in_ok-log.log c.in_ok-log.ensures.log

pub told-requires-clause-member : goal.told-requires-clause-member
told-requires-clause-member c = meant_member _ c.args.options.now.bound c.args.options.now.tears c.args.which _ c.in_ok-choice.ensures.meant.is

pub returns-in-Ok-clause-shown : goal.returns-in-Ok-clause-shown
returns-in-Ok-clause-shown c =
    let has = has_images _ c.args.options.now c.in_ok-log.log _ c.in_ok-log.ensures.log c.in_ok-plan.ensures.count c.in_ok-plan.ensures.few c.in_ok-plan.ensures.within in
    image_is c.args.form _ c.args.options.now c.in_ok-log.log _ c.args.which c.in_ok-choice.choice _ has c.in_ok-plan.ensures.plan c.in_ok-choice.ensures.meant c.in-Ok.ensures

pub returns-clause-refused : goal.returns-clause-refused
returns-clause-refused c =
    rw c.of_memory.ensures
    (for_memory c.in_ok-log.log
    (has_images _ c.args.options.now c.in_ok-log.log _ c.in_ok-log.ensures.log c.in_ok-plan.ensures.count c.in_ok-plan.ensures.few c.in_ok-plan.ensures.within))
