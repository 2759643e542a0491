use Rattle.std.proofs.Common.{refl, sym, ◌∙◌}
use Rattle.explore_core.proofs.Agreement.{jobs_are, images_fall, outcomes_differ}
use Rattle.explore_core.proofs.job.Jobs.new.Goals as goal

pub returns-then-not-images_rise-clause-none : goal.returns-then-not-images_rise-clause-none
returns-then-not-images_rise-clause-none c =
    images_fall (λ b. b.items) _ (rw c.as_slice.ensures.value at (sym c.images_rise.ensures ∙ c.if-not-images_rise.true))

pub returns-then-not-outcomes_agree-clause-none : goal.returns-then-not-outcomes_agree-clause-none
returns-then-not-outcomes_agree-clause-none c =
    outcomes_differ (λ b. b.items) _ (rw c.as_slice-2.ensures.value at (sym c.outcomes_agree.ensures ∙ c.if-not-outcomes_agree.true))

pub invariant_of-result : goal.invariant_of-result
invariant_of-result c =
    jobs_are (λ b. b.items) _ (rw c.as_slice.ensures.value at (sym c.images_rise.ensures ∙ c.if-not-images_rise.false))
    (rw c.as_slice-2.ensures.value at (sym c.outcomes_agree.ensures ∙ c.if-not-outcomes_agree.false))

pub returns-clause-some : goal.returns-clause-some
returns-clause-some c = (refl, invariant_of-result c)
