use Rattle.std.proofs.lemmas.Result.{err_from_is_err_and}
use Rattle.inspect.specs.CutSurvey.{for_cut_log, for_cut_memory}
use Rattle.inspect.proofs.Risks.{cut_parts_refused}
use Rattle.inspect.proofs.looks.cuts_command.survey_cuts.Goals as goal

pub returns-in_err-log-clause-refused : goal.returns-in_err-log-clause-refused
returns-in_err-log-clause-refused c =
    let p = err_from_is_err_and c.from_residual.result c.from_residual.ensures.1 in
    rw (p.1, p.2) (for_cut_log _ c.in_err-log.ensures.refused)

pub returns-then-not-can_be_laid_out-clause-refused : goal.returns-then-not-can_be_laid_out-clause-refused
returns-then-not-can_be_laid_out-clause-refused c =
    rw c.option_refusal_of.ensures
    (cut_parts_refused c.args.parts _ c.args.options.now c.in_ok-log.log _ c.in_ok-log.ensures.log c.can_be_laid_out.ensures c.if-not-can_be_laid_out.true)

pub returns-clause-refused : goal.returns-clause-refused
returns-clause-refused c = rw c.of_memory.ensures (for_cut_memory c.in_ok-log.log c.in_ok-log.ensures.log)
