use Rattle.std.proofs.lemmas.Result.{err_from_is_err_and}
use Rattle.commands.proofs.Acts.{no_log_of_report, no_report_file, no_base_of_report}
use Rattle.commands.proofs.action.HeldFiles.given.Goals as goal

pub returns-in_err-log : goal.returns-in_err-log
returns-in_err-log c =
    let p = err_from_is_err_and c.from_residual.result c.from_residual.ensures.1 in
    rw (p.1, p.2) (no_log_of_report _ _ _ c.in_err-log.ensures)

pub returns-in_err-given : goal.returns-in_err-given
returns-in_err-given c =
    let p = err_from_is_err_and c.from_residual-in_err-given.result c.from_residual-in_err-given.ensures.1 in
    rw (p.1, p.2) (no_report_file _ _ _ c.in_ok-log.log.now c.in_ok-log.ensures c.in_err-given.ensures)

pub returns-in_err-initial : goal.returns-in_err-initial
returns-in_err-initial c =
    let p = err_from_is_err_and c.from_residual-in_err-initial.result c.from_residual-in_err-initial.ensures.1 in
    rw (p.1, p.2) (no_base_of_report _ _ _ c.in_ok-log.log.now c.in_ok-given.given.now c.in_ok-log.ensures c.in_ok-given.ensures c.in_err-initial.ensures)
