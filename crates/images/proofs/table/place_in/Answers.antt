use Rattle.std.proofs.Common.{arith}
use Rattle.images.proofs.Rows.{narrow_begins, goes_up, goes_down, narrowed}
use Rattle.images.proofs.table.place_in.Goals as goal

pub loop-first-init : goal.loop-first-init
loop-first-init c = narrow_begins _ _ _ _ c.requires.order c.requires.bound c.requires.before c.requires.beyond

pub loop-first-preserved-then-units-middle : goal.loop-first-preserved-then-units-middle
loop-first-preserved-then-units-middle c =
    goes_up _ _ _ _ _ _ _ _ c.requires.rising c.loop-first.invariant (omega arith) (omega (arith, c.loop-first-test.true)) c.if-units-middle.true

pub loop-first-preserved : goal.loop-first-preserved
loop-first-preserved c =
    goes_down _ _ _ _ _ _ _ _ c.requires.rising c.loop-first.invariant (omega arith) (omega (arith, c.loop-first-test.true)) c.if-units-middle.false

pub returns-clause-place : goal.returns-clause-place
returns-clause-place c = narrowed _ _ _ _ _ _ c.loop-first.invariant (omega (arith, c.loop-first-test.false))
