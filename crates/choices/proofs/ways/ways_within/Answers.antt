use Rattle.std.proofs.Common.{◌≤◌, refl, arith}
use Rattle.choices.proofs.Counts.{ways_below_none, ways_below_more}
use Rattle.choices.proofs.ways.ways_within.Goals as goal

pub loop-size-init : goal.loop-size-init
loop-size-init c = (ways_below_none _ _, λ _. omega arith, omega arith)

pub loop-size-preserved : goal.loop-size-preserved
loop-size-preserved c =
    let so = c.loop-size.invariant in
    let low : c.loop-size.size ≤ 3 = omega (arith, c.loop-size-test.true, c.requires.bound) in
    let before = so.1 low in (
      rw (ways_below_more c.args.fates c.loop-size.size c.args.parts, c.ways-sum.ensures.value, so.0) refl,
      λ more. let few = c.ways-sum.ensures.few (omega (arith, more)) in omega (arith, before, few),
      omega (arith, low, before, c.ways-sum.ensures.bound),
    )
