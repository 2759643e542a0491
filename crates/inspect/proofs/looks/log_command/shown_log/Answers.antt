use Rattle.std.proofs.lemmas.Result.{err_from_is_err_and}
use Rattle.inspect.specs.Table.{for_log, for_memory}
use Rattle.inspect.proofs.looks.log_command.shown_log.Goals as goal

pub returns-in_err-log-clause-refused : goal.returns-in_err-log-clause-refused
returns-in_err-log-clause-refused c =
    let p = err_from_is_err_and c.from_residual.result c.from_residual.ensures.1 in
    rw (p.1, p.2) (for_log _ c.in_err-log.ensures.refused)

pub returns-clause-refused : goal.returns-clause-refused
returns-clause-refused c =
    rw c.of_memory.ensures
    (for_memory c.in_ok-log.log c.in_ok-log.ensures.log)
