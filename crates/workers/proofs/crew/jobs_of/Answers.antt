use Rattle.std.proofs.Common.{◌≡◌, ◌∙◌, [], ◌∷◌, ◌++◌, List, map, reverse, length, length-append, option_to_list, append_assoc, All, refl, sym, ap, arith}
use Rattle.std.proofs.lemmas.List.{map-append}
use Rattle.std.specs.Vec.Iter.{into_iter_items}
use Rattle.shares.specs.Hands.{HandValue, HandPlace, IsEmptyHand}
use Rattle.workers.proofs.Back.{all_snoc, all_front, turned_place}
use Rattle.workers.proofs.Tables.{all_middle}
use Rattle.workers.proofs.crew.jobs_of.Goals as goal

pub loop-seat-preserved : goal.loop-seat-preserved
loop-seat-preserved g c =
    let at = c.loop-seat in
    let x = c.in-Some.seat in
    let steps : into_iter_items at.seat-iterator ≡ x ∷ into_iter_items c.next.new.self = c.in-Some.ensures.steps.0 in
    let gone = c.in-Some.ensures.steps.1 in
    let hand = c.unwrap-hand.result in
    let rest = c.pop.new.self.items in
    let popped : at.hands.items ≡ rest ++ hand ∷ [] = c.pop.ensures.items ∙ ap (λ o. rest ++ option_to_list o) c.unwrap-hand.ensures in
    let empty : All IsEmptyHand (rest ++ hand ∷ []) = rw (← popped) at.invariant.3 in
    let own : IsEmptyHand hand = all_middle IsEmptyHand rest [] (rest ++ hand ∷ []) hand refl empty in
    let fewer = length-append rest (hand ∷ []) in
    let count = ap length popped in (
      append_assoc at.yielded (x ∷ []) _ ∙ rw (← steps) at.invariant.0,
      rw (c.in_ok-push.ensures.items, map-append, at.invariant.1) refl,
      rw c.in_ok-push.ensures.items (all_snoc (λ j. IsEmptyHand j.hand) at.jobs.items _ at.invariant.2 own),
      all_front IsEmptyHand rest (hand ∷ []) empty,
      let was = at.invariant.4 in omega arith,
      let was = at.invariant.5 in
          let short = ap length steps in
          omega arith,
      at.invariant.6 ∙ ap (λ (ps : List HandPlace). map (λ j. j.hand.place) at.jobs.items ++ ps) (ap (λ (hs : List HandValue). reverse (map (λ (h : HandValue). h.place) hs)) popped ∙ turned_place rest hand)
          ∙ sym (append_assoc (map (λ j. j.hand.place) at.jobs.items) (hand.place ∷ []) (reverse (map (λ (h : HandValue). h.place) rest)))
          ∙ ap (λ (ps : List HandPlace). ps ++ reverse (map (λ (h : HandValue). h.place) rest)) (rw (c.in_ok-push.ensures.items, map-append) refl),
    )
