use Rattle.std.proofs.Common.{sym, ◌∙◌, arith}
use Rattle.images.proofs.Showing.{found, passed, none_left}
use Rattle.images.proofs.image.showing.Goals as goal

pub returns-then-reaches : goal.returns-then-reaches
returns-then-reaches c =
    found _ _ c.loop-left.left _ c.loop-left-test.true c.loop-left.invariant.0 c.loop-left.invariant.1 (sym c.reaches.ensures ∙ c.if-reaches.true)

pub loop-left-preserved : goal.loop-left-preserved
loop-left-preserved c =
    let within = c.loop-left.invariant.0 in (
      omega (arith, within),
      passed _ _ c.loop-left.left _ c.loop-left-test.true within c.loop-left.invariant.1 (sym c.reaches.ensures ∙ c.if-reaches.false),
    )

pub returns : goal.returns
returns c = none_left _ _ c.loop-left.left c.loop-left-test.false c.loop-left.invariant.1
