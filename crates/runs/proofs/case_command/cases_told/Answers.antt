use Rattle.std.proofs.Common.{◌∙◌, sym}
use Rattle.std.proofs.lemmas.Result.{err_from_is_err_and}
use Rattle.runs.proofs.Casing.{all_refused}
use Rattle.runs.proofs.case_command.cases_told.Goals as goal

pub returns-in_err-found-clause-refused : goal.returns-in_err-found-clause-refused
returns-in_err-found-clause-refused g c =
    let p = err_from_is_err_and c.from_residual.result c.from_residual.ensures.1 in
    rw (p.1, p.2) (all_refused c.args.losses c.args.task.now _ (sym c.first.ensures ∙ c.if-first.false) c.in_err-found.ensures.refused)
