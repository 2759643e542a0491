use Rattle.std.proofs.Common.{arith, sym}
use Rattle.crash_text.proofs.Differing.{none_seen, still_none, first_seen, never_seen}
use Rattle.crash_text.proofs.sector.first_difference.Goals as goal

pub loop-place-init : goal.loop-place-init
loop-place-init c = none_seen c.args.left.now c.args.right.now

pub loop-place-preserved : goal.loop-place-preserved
loop-place-preserved c = still_none c.args.left.now c.args.right.now c.loop-place.place c.loop-place.invariant (sym c.if-differs.ensures)

pub returns-then-differs-clause-value : goal.returns-then-differs-clause-value
returns-then-differs-clause-value c = first_seen c.args.left.now c.args.right.now c.loop-place.place c.loop-place.invariant (sym c.if-differs.ensures) c.loop-place-test.true

pub returns-clause-value : goal.returns-clause-value
returns-clause-value c = never_seen c.args.left.now c.args.right.now c.loop-place.place c.loop-place.invariant (omega (arith, c.loop-place-test.false, c.loop-place.auto.place-end))
