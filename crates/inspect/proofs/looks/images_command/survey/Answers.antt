use Rattle.std.proofs.Common.{ℕ, ◌≡◌, ◌≤◌, true, length, subst, arith}
use Rattle.request.specs.Extents.{most_images, has_extent}
use Rattle.std.proofs.lemmas.Result.{err_from_is_err_and}
use Rattle.request.specs.Source.{for_log, for_plan, images_of}
use Rattle.request.proofs.Logs.{has_images}
use Rattle.inspect.proofs.Refused.{parts_refused}
use Rattle.inspect.specs.Survey.{for_source, for_memory}
use Rattle.inspect.proofs.looks.images_command.survey.Goals as goal

pub returns-in_err-log-clause-refused : goal.returns-in_err-log-clause-refused
returns-in_err-log-clause-refused c =
    let p = err_from_is_err_and c.from_residual.result c.from_residual.ensures.1 in
    rw (p.1, p.2) (for_source _ (for_log _ c.in_err-log.ensures.refused))

pub returns-in_err-plan-clause-refused : goal.returns-in_err-plan-clause-refused
returns-in_err-plan-clause-refused c =
    let p = err_from_is_err_and c.from_residual-in_err-plan.result c.from_residual-in_err-plan.ensures.1 in
    rw (p.1, p.2)
    (for_source _
    (for_plan _ c.in_ok-log.log (c.in_ok-log.ensures.log) c.in_err-plan.ensures.refused))

pub returns-then-not-can_be_laid_out-clause-refused : goal.returns-then-not-can_be_laid_out-clause-refused
returns-then-not-can_be_laid_out-clause-refused c =
    let has = has_images _ c.args.options.now c.in_ok-log.log _ c.in_ok-log.ensures.log c.in_ok-plan.ensures.count c.in_ok-plan.ensures.few c.in_ok-plan.ensures.within in
    rw c.option_refusal_of.ensures
    (parts_refused c.args.parts _ c.args.options.now c.in_ok-log.log _ _ has c.in_ok-plan.ensures.count c.can_be_laid_out.ensures c.if-not-can_be_laid_out.true)

pub returns-clause-refused : goal.returns-clause-refused
returns-clause-refused c =
    let few : length (images_of c.args.options.now c.in_ok-log.log) ≤ most_images c.args.options.now.extent = omega (arith, c.in_ok-plan.ensures.count, c.in_ok-plan.ensures.few) in
    rw c.of_memory.ensures
    (for_memory c.in_ok-log.log
    (record {
      reads = c.in_ok-log.ensures.log;
      few = few;
      within = subst (λ (n : ℕ). has_extent c.args.options.now.extent n ≡ true) c.in_ok-plan.ensures.count c.in_ok-plan.ensures.within;
    }))
