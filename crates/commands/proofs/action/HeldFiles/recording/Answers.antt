use Rattle.std.proofs.lemmas.Result.{err_from_is_err_and}
use Rattle.commands.proofs.Acts.{no_log_file, no_base_file}
use Rattle.commands.proofs.action.HeldFiles.recording.Goals as goal

pub returns-in_err-log : goal.returns-in_err-log
returns-in_err-log c =
    let p = err_from_is_err_and c.from_residual.result c.from_residual.ensures.1 in
    rw (p.1, p.2) (no_log_file _ _ _ c.in_err-log.ensures)

pub returns-in_err-initial : goal.returns-in_err-initial
returns-in_err-initial c =
    let p = err_from_is_err_and c.from_residual-in_err-initial.result c.from_residual-in_err-initial.ensures.1 in
    rw (p.1, p.2) (no_base_file _ _ _ c.in_ok-log.log.now c.in_ok-log.ensures c.in_err-initial.ensures)
