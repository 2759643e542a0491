use Rattle.join.proofs.Endings.{fails}
use Rattle.join.proofs.CaseRowed.{alike_on, foreign_at}
use Rattle.join.proofs.case_parts.row.first_foreign.Goals as goal

pub returns-then-not-branch : goal.returns-then-not-branch
returns-then-not-branch c =
    foreign_at c.args.parts.now c.loop-place.place c.index-parts-0.result c.index-parts-place.result c.loop-place.invariant c.loop-place-test.true c.index-parts-0.is c.index-parts-place.is
    (fails c.in_ok-is_alike.field-0 c.if-not-branch.true c.in_ok-is_alike.ensures)

pub loop-place-preserved : goal.loop-place-preserved
loop-place-preserved c =
    alike_on c.args.parts.now c.loop-place.place c.index-parts-0.result c.index-parts-place.result c.loop-place.invariant c.loop-place-test.true c.index-parts-0.is c.index-parts-place.is
    (c.in_ok-is_alike.ensures.0 c.if-not-branch.false)
