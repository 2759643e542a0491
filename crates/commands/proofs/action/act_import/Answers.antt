use Rattle.std.proofs.lemmas.Result.{err_from_is_err_and}
use Rattle.commands.specs.Acting.{for_held}
use Rattle.commands.proofs.Acts.{unread_file}
use Rattle.commands.proofs.action.act_import.Goals as goal

pub returns-in_err-raw-clause-refused : goal.returns-in_err-raw-clause-refused
returns-in_err-raw-clause-refused c =
    let p = err_from_is_err_and c.from_residual.result c.from_residual.ensures.1 in
    rw (p.1, p.2) (unread_file _ _ c.in_err-raw.field-0.0 c.in_err-raw.ensures)

pub returns-in_err-text-clause-refused : goal.returns-in_err-text-clause-refused
returns-in_err-text-clause-refused c =
    let p = err_from_is_err_and c.from_residual-in_err-text.result c.from_residual-in_err-text.ensures.1 in
    rw (p.1, p.2) (for_held c.in_ok-raw.raw.now c.in_err-text.field-0.0 c.in_ok-raw.ensures c.in_err-text.ensures.refused)
