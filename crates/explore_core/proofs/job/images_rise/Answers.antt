use Rattle.std.proofs.Common.{sym, ◌∙◌, ap}
use Rattle.explore_core.specs.Agreement.{last_image}
use Rattle.explore_core.proofs.Agreement.{none_left, one_less}
use Rattle.explore_core.proofs.job.images_rise.Goals as goal

pub returns-in-None : goal.returns-in-None
returns-in-None c =
    none_left (λ b. b.items) _ _ _ _ _ c.loop-block-test.true c.block-item.is c.loop-block.invariant
    (sym c.in-None.is ∙ c.last_image.ensures ∙ ap (last_image c.loop-block.last) c.as_slice.ensures.value)

pub loop-block-preserved : goal.loop-block-preserved
loop-block-preserved c =
    one_less (λ b. b.items) _ _ _ _ _ _ c.loop-block-test.true c.block-item.is c.loop-block.invariant
    (sym c.in-Some.is ∙ c.last_image.ensures ∙ ap (last_image c.loop-block.last) c.as_slice.ensures.value)
