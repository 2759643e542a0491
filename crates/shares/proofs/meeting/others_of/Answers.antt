use Rattle.std.proofs.Common.{◌≡◌, ◌∙◌, ◌<◌, ◌-◌, ◌++◌, ◌∷◌, [], length, map, take, drop, add-one, slice_set, slice_index_or, sym, ap, arith}
use Rattle.shares.specs.Owned.{DequeValue}
use Rattle.shares.specs.Meeting.{new_other, with_less}
use Rattle.shares.proofs.Reunion.{mapped_next, made_next, held_next}
use Rattle.shares.proofs.meeting.others_of.Goals as goal

pub other-requires : goal.other-requires
other-requires g c =
    let at = c.loop-place in
    let xs = c.args.deques.now.items in
    let x = c.index_mut.result.now in
    let value : x ≡ slice_index_or (map with_less (take at.place xs) ++ drop at.place xs) at.place x = rw (← at.invariant.1) c.index_mut.ensures.value in
    let few : at.place < length xs - 1 = omega (arith, c.loop-place-test.true, at.invariant.0) in
    record { parts = held_next with_less (λ (d : DequeValue). 1 < d.parts) xs at.place (length xs - 1) x few (omega (arith, few)) c.requires.parts value }

pub loop-place-preserved : goal.loop-place-preserved
loop-place-preserved g c =
    let at = c.loop-place in
    let xs = c.args.deques.now.items in
    let x = c.index_mut.result.now in
    let value : x ≡ slice_index_or (map with_less (take at.place xs) ++ drop at.place xs) at.place x = rw (← at.invariant.1) c.index_mut.ensures.value in
    let within : at.place < length xs = omega (arith, c.loop-place-test.true, at.invariant.0) in (
      at.invariant.0,
      ap (λ (d : DequeValue). slice_set at.deques.items at.place d) c.in_ok-other.ensures.gives ∙ ap (λ ds. slice_set ds at.place (with_less x)) at.invariant.1 ∙ mapped_next with_less xs at.place x within value
          ∙ ap (λ n. map with_less (take n xs) ++ drop n xs) (sym (add-one at.place)),
      c.in_ok-push.ensures.items ∙ (λ i. at.invariant.2 i ++ c.in_ok-other.ensures.other i ∷ []) ∙ made_next with_less (λ (d : DequeValue). new_other d.name) xs at.place x within value
          ∙ ap (λ n. map (λ (d : DequeValue). new_other d.name) (take n xs)) (sym (add-one at.place)),
    )
