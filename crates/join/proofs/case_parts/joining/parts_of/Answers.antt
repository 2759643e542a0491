use Rattle.std.proofs.Common.{arith}
use Rattle.std.proofs.lemmas.Result.{err_from_is_err_and}
use Rattle.join.proofs.CaseJoins.{parts_next, parts_all, part_refused}
use Rattle.join.proofs.case_parts.joining.parts_of.Goals as goal

pub returns-in_err-part-clause-refused : goal.returns-in_err-part-clause-refused
returns-in_err-part-clause-refused c =
    let p = err_from_is_err_and c.from_residual.result c.from_residual.ensures.1 in
    rw (p.1, p.2)
    (part_refused _ c.args.files.now c.loop-number.number c.index-files-number.result c.as_slice.result.now c.loop-number.parts.items _ c.loop-number.invariant c.loop-number-test.true c.index-files-number.is c.as_slice.ensures.value c.in_err-part.ensures.refused)

pub loop-number-preserved : goal.loop-number-preserved
loop-number-preserved c =
    rw c.in-Ok.ensures.items
    (parts_next _ c.args.files.now c.loop-number.number c.index-files-number.result c.as_slice.result.now c.loop-number.parts.items _ c.loop-number.invariant c.loop-number-test.true c.index-files-number.is c.as_slice.ensures.value c.in_ok-part.ensures.part.0 c.in_ok-part.ensures.part.1)

pub returns-clause-parts : goal.returns-clause-parts
returns-clause-parts c = let past = c.loop-number-test.false in parts_all _ c.args.files.now c.loop-number.number c.loop-number.parts.items (omega (arith, past)) c.loop-number.invariant
