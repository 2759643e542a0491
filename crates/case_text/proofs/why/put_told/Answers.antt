use Rattle.std.proofs.Common.{arith}
use Rattle.case_text.proofs.Telling.{no_told, some_told}
use Rattle.case_text.proofs.why.put_told.Goals as goal

pub returns-then-told-eq0 : goal.returns-then-told-eq0
returns-then-told-eq0 c = no_told c.args.cut c.args.program c.args.told.now _ (omega (arith, c.if-told-eq0.true))

pub returns : goal.returns
returns c = some_told c.args.cut c.args.program c.args.told.now _ _ _ (omega (arith, c.if-told-eq0.false)) c.in_ok-put_cut_line.ensures c.in_ok-put_groups.ensures
