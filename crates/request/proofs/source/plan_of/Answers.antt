use Rattle.std.proofs.Common.{◌∙◌, ap, sym}
use Rattle.request.specs.Extents.{most_images}
use Rattle.request.specs.Source.{too_many, no_plan_memory}
use Rattle.request.proofs.Plans.{same_plan, past_of, images_lacking}
use Rattle.request.proofs.source.plan_of.Goals as goal

pub returns-in-Err-clause-refused : goal.returns-in-Err-clause-refused
returns-in-Err-clause-refused c = rw c.of_memory.ensures no_plan_memory

pub returns-in-Err-count_up_to-clause-refused :
    goal.returns-in-Err-count_up_to-clause-refused
returns-in-Err-count_up_to-clause-refused c =
    rw c.images_refusal_of.ensures
    (too_many c.in-Err-count_up_to.fault.at
    (past_of _ _ _ _ _ _ _ _ _ (c.most.ensures ∙ ap most_images c.extent-extent.ensures.value) (same_plan _ _ _ _ c.in-Ok.ensures.log (c.in-Ok.ensures.kind ∙ c.cuts.ensures) (c.in-Ok.ensures.by ∙ c.by.ensures)) c.bound.ensures.value c.tears.ensures c.in-Err-count_up_to.ensures.past))

pub returns-then-not-is_within-clause-refused :
    goal.returns-then-not-is_within-clause-refused
returns-then-not-is_within-clause-refused c =
    rw c.option_refusal_of.ensures
    (images_lacking c.args.options.now c.args.log.now c.in-Ok.plan c.bound.result c.tears.result c.extent-extent.result c.in-Ok-count_up_to.images c.most.result
    (same_plan _ _ _ _ c.in-Ok.ensures.log (c.in-Ok.ensures.kind ∙ c.cuts.ensures) (c.in-Ok.ensures.by ∙ c.by.ensures)) c.bound.ensures.value c.tears.ensures c.extent-extent.ensures.value c.most.ensures
    c.in-Ok-count_up_to.ensures.value c.in-Ok-count_up_to.ensures.most (sym c.is_within.ensures ∙ c.if-not-is_within.true))
