use Rattle.std.proofs.Common.{refl, inl, inr}
use Rattle.choices.proofs.Rows.{below_moved}
use Rattle.choices.proofs.Following.{goes_up, ends_here}
use Rattle.choices.proofs.step.step.Goals as goal
use Rattle.choices.proofs.step.step.Goals.{else-size-bound-via-then-size-bound+else-size-parts, else-size-bound-via-else-size-bound}

pub returns-then-step_within_size-clause-moved : goal.returns-then-step_within_size-clause-moved
returns-then-step_within_size-clause-moved c = λ h. below_moved _ _ _ _ _ (c.if-step_within_size.ensures.moved h)

pub returns-then-size-parts-clause-moved : goal.returns-then-size-parts-clause-moved
returns-then-size-parts-clause-moved c = λ h.
    let stays = c.if-step_within_size.ensures in
    goes_up _ _ _ _ _ _ _ _ (stays.last refl) (stays.same refl) c.len-size.ensures.value c.if-size-bound.true c.if-size-parts.true c.clear.ensures c.put_row.ensures

pub returns-else-size-bound-clause-last : goal.returns-else-size-bound-clause-last
returns-else-size-bound-clause-last c = λ h.
    let stays = c.if-step_within_size.ensures in
    elim c.else-size-bound.branch [
      | else-size-bound-via-then-size-bound+else-size-parts w ↦
          ends_here _ _ _ _ _ _ (stays.last refl) (stays.same refl) c.len-size.ensures.value (inr w.if-size-parts.false)
      | else-size-bound-via-else-size-bound w ↦
          ends_here _ _ _ _ _ _ (stays.last refl) (stays.same refl) c.len-size.ensures.value (inl w.if-size-bound.false)
    ]
