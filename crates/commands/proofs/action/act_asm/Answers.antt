use Rattle.std.proofs.lemmas.Result.{err_from_is_err_and}
use Rattle.commands.specs.Acting.{for_held}
use Rattle.commands.proofs.Acts.{unread_file}
use Rattle.commands.proofs.action.act_asm.Goals as goal

pub returns-in_err-source-clause-refused : goal.returns-in_err-source-clause-refused
returns-in_err-source-clause-refused c =
    let p = err_from_is_err_and c.from_residual.result c.from_residual.ensures.1 in
    rw (p.1, p.2) (unread_file _ _ c.in_err-source.field-0.0 c.in_err-source.ensures)

pub returns-in_err-bytes-clause-refused : goal.returns-in_err-bytes-clause-refused
returns-in_err-bytes-clause-refused c =
    let p = err_from_is_err_and c.from_residual-in_err-bytes.result c.from_residual-in_err-bytes.ensures.1 in
    rw (p.1, p.2) (for_held c.in_ok-source.source.now c.in_err-bytes.field-0.0 c.in_ok-source.ensures c.in_err-bytes.ensures.refused)
