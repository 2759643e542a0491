use Rattle.std.proofs.Common.{rules, ◌≡◌, ◌∙◌, ◌+◌, ◌-◌, ◌<◌, ◌++◌, ◌∷◌, [], length, length-append, map, take, option_to_list, append_assoc, All, subst, refl, sym, ap, arith}
use Rattle.std.proofs.lemmas.List.{length-map, map-append}
use Rattle.std.specs.Vec.Iter.{into_iter_items, into_iter_len}
use Rattle.shares.specs.Owned.{DequeValue}
use Rattle.shares.specs.Hands.{AreTogether}
use Rattle.shares.specs.Meeting.{empty_deque, stealer_lists}
use Rattle.shares.proofs.Reunion.{none_met, met_next, all_met, stacked_last, stacked_length, deque_names, are_empty, next_name, length_names}
use Rattle.shares.proofs.Seats.{all_middle}
use Rattle.shares.proofs.meeting.hands.Goals as goal

pub loop-deque-init : goal.loop-deque-init
loop-deque-init g c =
    let it = into_iter_items c.into_iter-deque-iterator.result in
    let first = c.in_ok-deques.deques.items in
    let names = map (λ (d : DequeValue). d.name) first in
    let made : it ≡ map (empty_deque 1) names = c.into_iter-deque-iterator.ensures.into_iter_gives.0 ∙ c.in_ok-others.ensures.deques in
    let same : map (λ (d : DequeValue). d.name) it ≡ names = ap (map (λ (d : DequeValue). d.name)) made ∙ deque_names 1 names in
    let count : length it - 0 ≡ length first = omega (arith, ap length made, length-map names (empty_deque 1), length_names first) in
    let others = c.in_ok-others.ensures.others ∙ (λ i. stealer_lists (sym same i) (sym count i)) in
    let long : length c.in_ok-others.others.items ≡ length it - 0 = sym (length-map c.in_ok-others.others.items _) ∙ ap length others ∙ stacked_length (map (λ (d : DequeValue). d.name) it) (length it - 0) in
    let left : into_iter_len c.into_iter-deque-iterator.result ≡ length it = search rules in (
      refl,
      rw c.in_ok-hands.ensures.items (none_met (map (λ (d : DequeValue). d.name) it)),
      ap length c.in_ok-hands.ensures.items,
      others,
      left,
      omega (arith, long, left),
    )

pub of-requires-clause-unmarked : goal.of-requires-clause-unmarked
of-requires-clause-unmarked g c =
    let at = c.loop-deque in
    let x = c.in-Some.deque in
    let all = into_iter_items c.into_iter-deque-iterator.result in
    let first = c.in_ok-deques.deques.items in
    let rest = into_iter_items c.next.new.self in
    let steps : into_iter_items at.deque-iterator ≡ x ∷ rest = c.in-Some.ensures.steps.0 in
    let whole : at.yielded ++ x ∷ rest ≡ all = rw (← steps) at.invariant.0 in
    let made : all ≡ map (empty_deque 1) (map (λ (d : DequeValue). d.name) first) = c.into_iter-deque-iterator.ensures.into_iter_gives.0 ∙ c.in_ok-others.ensures.deques in
    let empty : x ≡ empty_deque 1 x.name = all_middle (λ (d : DequeValue). d ≡ empty_deque 1 d.name) at.yielded rest all x whole (subst (All (λ (d : DequeValue). d ≡ empty_deque 1 d.name)) (sym made) (are_empty 1 (map (λ (d : DequeValue). d.name) first))) in
    (ap (λ (d : DequeValue). d.marks_pushed) empty, ap (λ (d : DequeValue). d.marks_got) empty)

pub loop-deque-preserved : goal.loop-deque-preserved
loop-deque-preserved g c =
    let at = c.loop-deque in
    let x = c.in-Some.deque in
    let all = into_iter_items c.into_iter-deque-iterator.result in
    let first = c.in_ok-deques.deques.items in
    let names = map (λ (d : DequeValue). d.name) all in
    let rest = into_iter_items c.next.new.self in
    let own = c.unwrap-own.result in
    let steps : into_iter_items at.deque-iterator ≡ x ∷ rest = c.in-Some.ensures.steps.0 in
    let gone = c.in-Some.ensures.steps.1 in
    let short = ap length steps in
    let whole : at.yielded ++ x ∷ rest ≡ all = rw (← steps) at.invariant.0 in
    let popped : at.others.items ≡ c.pop.new.self.items ++ own ∷ [] = c.pop.ensures.items ∙ ap (λ o. c.pop.new.self.items ++ option_to_list o) c.unwrap-own.ensures in
    let more : length at.yielded < length names = omega (arith, ap length whole, length-append at.yielded (x ∷ rest), length_names all) in
    let made : all ≡ map (empty_deque 1) (map (λ (d : DequeValue). d.name) first) = c.into_iter-deque-iterator.ensures.into_iter_gives.0 ∙ c.in_ok-others.ensures.deques in
    let stack = sym (ap (map (λ v. v.items)) popped ∙ map-append _ c.pop.new.self.items (own ∷ [])) ∙ at.invariant.3 ∙ ap (λ n. stealer_lists names (n - length at.yielded)) (sym (length_names all)) in
    let last = stacked_last names (length at.yielded) _ own.items more stack in
    let empty : x ≡ empty_deque 1 x.name = all_middle (λ (d : DequeValue). d ≡ empty_deque 1 d.name) at.yielded rest all x whole (subst (All (λ (d : DequeValue). d ≡ empty_deque 1 d.name)) (sym made) (are_empty 1 (map (λ (d : DequeValue). d.name) first))) in
    let next = subst (λ ds. take (length at.yielded) (map (λ (d : DequeValue). d.name) ds) ++ x.name ∷ [] ≡ take (length at.yielded + 1) (map (λ (d : DequeValue). d.name) ds)) whole (next_name at.yielded x rest) in
    let met = at.invariant.2 in (
      append_assoc at.yielded (x ∷ []) _ ∙ rw (← steps) at.invariant.0,
      rw c.in_ok-push.ensures.items
          (met_next names at.hands.items x own.items c.of.result at.invariant.1 (omega (arith, more, met)) empty (rw met next) (rw met last.1) c.of.ensures),
      omega (arith, ap length c.in_ok-push.ensures.items, length-append at.hands.items (c.of.result ∷ []), met, length-append at.yielded (x ∷ [])),
      last.0 ∙ ap (stealer_lists names) (omega (arith, length_names all, length-append at.yielded (x ∷ []))),
      (let was = at.invariant.4 in omega arith),
      (let was = at.invariant.5 in
          let fewer = length-append c.pop.new.self.items (own ∷ []) in
          let count = ap length popped in
          omega arith),
    )

pub returns-clause-together : goal.returns-clause-together
returns-clause-together g c =
    let at = c.loop-deque in
    let all = into_iter_items c.into_iter-deque-iterator.result in
    let first = c.in_ok-deques.deques.items in
    let made : all ≡ map (empty_deque 1) (map (λ (d : DequeValue). d.name) first) = c.into_iter-deque-iterator.ensures.into_iter_gives.0 ∙ c.in_ok-others.ensures.deques in
    let many : length (map (λ (d : DequeValue). d.name) all) ≡ c.args.workers = omega (arith, length_names all, ap length made, length-map (map (λ (d : DequeValue). d.name) first) (empty_deque 1), length_names first, c.in_ok-deques.ensures.count) in
    let none = c.in-None.ensures.steps.0 in
    let count : length at.hands.items ≡ length (map (λ (d : DequeValue). d.name) all) = omega (arith, at.invariant.2, ap length at.invariant.0, length-append at.yielded (into_iter_items at.deque-iterator), at.invariant.4, none, length_names all) in
    subst (λ n. AreTogether n (map (λ h. h.place) at.hands.items)) many (all_met (map (λ (d : DequeValue). d.name) all) at.hands.items at.invariant.1 count).0

pub returns-clause-empty : goal.returns-clause-empty
returns-clause-empty g c =
    let at = c.loop-deque in
    let all = into_iter_items c.into_iter-deque-iterator.result in
    let none = c.in-None.ensures.steps.0 in
    let count : length at.hands.items ≡ length (map (λ (d : DequeValue). d.name) all) = omega (arith, at.invariant.2, ap length at.invariant.0, length-append at.yielded (into_iter_items at.deque-iterator), at.invariant.4, none, length_names all) in
    (all_met (map (λ (d : DequeValue). d.name) all) at.hands.items at.invariant.1 count).1
