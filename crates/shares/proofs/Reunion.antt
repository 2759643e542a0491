-- How hands meet, and how they are taken apart.
use Rattle.std.proofs.Common.{◌≡◌, ℕ, zero, suc, ◌+◌, ◌-◌, ◌<◌, ◌≤◌, List, [], ◌∷◌, ◌++◌, length, map, flat_map, take, drop, All, None, Some, slice_get, slice_set, slice_index_or, sym, refl, ap, ◌∙◌, subst, append_assoc, append-nil, length-append, arith, inl, inr}
use lib.Seq.{take-append_seam, drop-append_seam}
use Rattle.std.specs.List.{range_with_len}
use Rattle.std.proofs.lemmas.List.{length-map, map-append}
use Rattle.std.proofs.lemmas.List.FromFn.{length-range_with_len}
use Rattle.std.proofs.lemmas.List.Elements.{All-nil, All-cons, All-head, All-tail, All-append}
use Rattle.base.proofs.Lists.{slice_get_of_push, range_with_len-more}
use Rattle.shares.specs.Steps.{total}
use Rattle.shares.specs.Seats.{times}
use Rattle.shares.specs.Deques.{DequeName}
use Rattle.shares.specs.Owned.{DequeValue, OtherValue, AddsLeft}
use Rattle.shares.specs.declared.deque.Phase.TheVariants.{Open, Closed}
use Rattle.shares.specs.Hands.{HandPlace, HandValue, hand_place, hand_value, others_at, AreOthers, AreTogether, AreLeft, IsEmptyHand, IsShut}
use Rattle.shares.specs.Meeting.{empty_deque, new_other, with_less, with_back, stealer_lists, deques_with, all_got, unmarked_one, unmarked_count, AreMet, AreApart, AreWhole, AddsAllLeft}
use Rattle.shares.proofs.Lists.{total_snoc}
use Rattle.shares.proofs.Seats.{times_append, all_middle}

-- lists

-- a list is its front and its last element, where it has one
pub record Fronted {A : Type 0} (xs : List A) : Type 0 where
  pub front : List A
  pub last : A
  pub is : xs ≡ front ++ last ∷ []

pub fronted : {A : Type 0} (xs : List A) → 0 < length xs → Fronted xs
fronted [] some = absurd (omega (arith, some))
fronted (x ∷ []) some = record { front = []; last = x; is = refl }
fronted (x ∷ y ∷ xs) some = let rest = fronted (y ∷ xs) (omega arith) in record { front = x ∷ rest.front; last = rest.last; is = ap (λ ys. x ∷ ys) rest.is }

-- the last element comes to the front
pub rotated : {A : Type 0} (xs : List A) (x : A) (n : ℕ) → n ≡ length xs → drop n (xs ++ x ∷ []) ++ take n (xs ++ x ∷ []) ≡ x ∷ xs
rotated xs x n e = rw (e, drop-append_seam xs (x ∷ []), take-append_seam xs (x ∷ [])) refl

-- one more element of a prefix is mapped
pub mapped_next : {A : Type 0} (f : A → A) (xs : List A) (k : ℕ) (x : A) → k < length xs → x ≡ slice_index_or (map f (take k xs) ++ drop k xs) k x
    → slice_set (map f (take k xs) ++ drop k xs) k (f x) ≡ map f (take (suc k) xs) ++ drop (suc k) xs
mapped_next f [] k x lt at = absurd (omega (arith, lt))
mapped_next f (y ∷ ys) zero x lt at = ap (λ z. f z ∷ ys) at
mapped_next f (y ∷ ys) (suc k) x lt at = ap (λ zs. f y ∷ zs) (mapped_next f ys k x (omega (arith, lt)) at)

-- and what else is made of it is after what was made so far
pub made_next : {A B : Type 0} (f : A → A) (g : A → B) (xs : List A) (k : ℕ) (x : A) → k < length xs → x ≡ slice_index_or (map f (take k xs) ++ drop k xs) k x
    → map g (take k xs) ++ g x ∷ [] ≡ map g (take (suc k) xs)
made_next f g [] k x lt at = absurd (omega (arith, lt))
made_next f g (y ∷ ys) zero x lt at = ap (λ z. g z ∷ []) at
made_next f g (y ∷ ys) (suc k) x lt at = ap (λ zs. g y ∷ zs) (made_next f g ys k x (omega (arith, lt)) at)

pub held_next : {A : Type 0} (f : A → A) (P : A → Type 0) (xs : List A) (k n : ℕ) (x : A) → k < n → k < length xs → All P (take n xs) → x ≡ slice_index_or (map f (take k xs) ++ drop k xs) k x → P x
held_next f P [] k n x few lt h at = absurd (omega (arith, lt))
held_next f P (y ∷ ys) k zero x few lt h at = absurd (omega (arith, few))
held_next f P (y ∷ ys) zero (suc n) x few lt h at = subst P (sym at) (h 0 y (omega arith))
held_next f P (y ∷ ys) (suc k) (suc n) x few lt h at = held_next f P ys k n x (omega (arith, few)) (omega (arith, lt)) (λ i d within. h (suc i) d (omega (arith, within))) at

-- elements that are made of their own keys, and one more
pub keyed_more : {A B : Type 0} (f : B → A) (key : A → B) (xs : List A) (x : A) → xs ≡ map f (map key xs) → x ≡ f (key x) → xs ++ x ∷ [] ≡ map f (map key (xs ++ x ∷ []))
keyed_more f key xs x h own = rw (map-append key xs (x ∷ []), map-append f (map key xs) (map key (x ∷ []))) ((λ i. h i ++ own i ∷ []))

-- deques that give parts away

-- as the stealers of the last hands are made: that many hands wait
pub record IsDealing (names : List DequeName) (made : ℕ) (deques : List DequeValue) (others : List (List OtherValue)) : Type 0 where
  pub waiting : List DequeName
  pub served : List DequeName
  pub split : names ≡ waiting ++ served
  pub count : length served ≡ made
  pub deques_are : deques ≡ map (empty_deque (length waiting + 1)) served ++ map (empty_deque (length waiting)) waiting
  pub others_are : others ≡ stealer_lists names made

pub dealing_begins : (names : List DequeName) (deques : List DequeValue) → deques ≡ map (empty_deque (length names)) names → IsDealing names 0 deques []
dealing_begins names deques e = record { waiting = names; served = []; split = sym (append-nil names); count = refl; deques_are = e; others_are = refl }

pub dealing_ends : (names : List DequeName) (made : ℕ) (deques : List DequeValue) (others : List (List OtherValue)) → IsDealing names made deques others → made ≡ length names → deques ≡ map (empty_deque 1) names
dealing_ends names made deques others h all = by_waiting h.waiting h.split h.deques_are
  where
    by_waiting : (waiting : List DequeName) → names ≡ waiting ++ h.served → deques ≡ map (empty_deque (length waiting + 1)) h.served ++ map (empty_deque (length waiting)) waiting → deques ≡ map (empty_deque 1) names
    by_waiting [] split are = rw split (are ∙ append-nil (map (empty_deque 1) h.served))
    by_waiting (x ∷ xs) split are = absurd (omega (arith, ap length split, length-append (x ∷ xs) h.served, h.count, all))

-- the deques before the stealers of the next hand are made: the last one is its own
module _ (names : List DequeName) (made : ℕ) (deques : List DequeValue) (others : List (List OtherValue)) (h : IsDealing names made deques others) (more : made < length names) where
  pub waits : 0 < length h.waiting
  waits = omega (arith, ap length h.split, length-append h.waiting h.served, h.count, more)

  abbrev rest : List DequeName
  rest = (fronted h.waiting waits).front

  abbrev own : DequeName
  own = (fronted h.waiting waits).last

  waiting_is : h.waiting ≡ rest ++ own ∷ []
  waiting_is = (fronted h.waiting waits).is

  waiting_count : length h.waiting ≡ length rest + 1
  waiting_count = ap length waiting_is ∙ length-append rest (own ∷ [])

  -- those that give a part away
  abbrev giving : List DequeValue
  giving = map (empty_deque (length h.waiting + 1)) h.served ++ map (empty_deque (length h.waiting)) rest

  deques_split : deques ≡ giving ++ empty_deque (length h.waiting) own ∷ []
  deques_split = h.deques_are ∙ ap (λ ns. map (empty_deque (length h.waiting + 1)) h.served ++ map (empty_deque (length h.waiting)) ns) waiting_is
      ∙ ap (λ ds. map (empty_deque (length h.waiting + 1)) h.served ++ ds) (map-append (empty_deque (length h.waiting)) rest (own ∷ []))
      ∙ sym (append_assoc (map (empty_deque (length h.waiting + 1)) h.served) (map (empty_deque (length h.waiting)) rest) (empty_deque (length h.waiting) own ∷ []))

  all_but_one : length deques - 1 ≡ length giving
  all_but_one = omega (arith, ap length deques_split, length-append giving (empty_deque (length h.waiting) own ∷ []))

  pub taken_is : take (length deques - 1) deques ≡ giving
  taken_is = (λ i. take (all_but_one i) (deques_split i)) ∙ take-append_seam giving (empty_deque (length h.waiting) own ∷ [])

  pub dropped_is : drop (length deques - 1) deques ≡ empty_deque (length h.waiting) own ∷ []
  dropped_is = (λ i. drop (all_but_one i) (deques_split i)) ∙ drop-append_seam giving (empty_deque (length h.waiting) own ∷ [])

  all_empty : (n : ℕ) → 1 < n → (ns : List DequeName) → All (λ (d : DequeValue). 1 < d.parts) (map (empty_deque n) ns)
  all_empty n lt [] i d within = absurd (omega (arith, within))
  all_empty n lt (x ∷ xs) zero d within = lt
  all_empty n lt (x ∷ xs) (suc i) d within = all_empty n lt xs i d (omega (arith, within))

  all_both : (xs ys : List DequeValue) → All (λ (d : DequeValue). 1 < d.parts) xs → All (λ (d : DequeValue). 1 < d.parts) ys → All (λ (d : DequeValue). 1 < d.parts) (xs ++ ys)
  all_both [] ys f g i d within = g i d within
  all_both (x ∷ xs) ys f g zero d within = f 0 d (omega arith)
  all_both (x ∷ xs) ys f g (suc i) d within = all_both xs ys (λ j e lt. f (suc j) e (omega (arith, lt))) g i d (omega (arith, within))

  some_or_none : (ns : List DequeName) → length h.waiting ≡ length ns + 1 → All (λ (d : DequeValue). 1 < d.parts) (map (empty_deque (length h.waiting)) ns)
  some_or_none [] e = λ i d within. absurd (omega (arith, within))
  some_or_none (x ∷ xs) e = all_empty (length h.waiting) (omega (arith, e)) (x ∷ xs)

  -- each of these has a part to give
  pub can_give : All (λ (d : DequeValue). 1 < d.parts) (take (length deques - 1) deques)
  can_give = subst (All (λ (d : DequeValue). 1 < d.parts)) (sym taken_is)
      (all_both (map (empty_deque (length h.waiting + 1)) h.served) (map (empty_deque (length h.waiting)) rest) (all_empty (length h.waiting + 1) (omega (arith, waits)) h.served) (some_or_none rest waiting_count))

  given_away : (n m : ℕ) → n - 1 ≡ m → (ns : List DequeName) → map with_less (map (empty_deque n) ns) ≡ map (empty_deque m) ns
  given_away n m e [] = refl
  given_away n m e (x ∷ xs) = λ i. empty_deque (e i) x ∷ given_away n m e xs i

  named : (n : ℕ) (ns : List DequeName) → map (λ (d : DequeValue). new_other d.name) (map (empty_deque n) ns) ≡ map new_other ns
  named n [] = refl
  named n (x ∷ xs) = ap (λ os. new_other x ∷ os) (named n xs)

  -- the other deques of this hand
  others_split : map (λ (d : DequeValue). new_other d.name) giving ≡ map new_other (h.served ++ rest)
  others_split = map-append (λ (d : DequeValue). new_other d.name) (map (empty_deque (length h.waiting + 1)) h.served) (map (empty_deque (length h.waiting)) rest)
      ∙ (λ i. named (length h.waiting + 1) h.served i ++ named (length h.waiting) rest i)
      ∙ sym (map-append new_other h.served rest)

  names_split : names ≡ rest ++ (own ∷ h.served)
  names_split = h.split ∙ ap (λ ns. ns ++ h.served) waiting_is ∙ append_assoc rest (own ∷ []) h.served

  others_here : others_at names (length names - 1 - made) ≡ h.served ++ rest
  others_here =
      let place : length names - 1 - made ≡ length rest = omega (arith, ap length names_split, length-append rest (own ∷ h.served), h.count) in
      let beyond : drop (length rest + 1) (rest ++ (own ∷ h.served)) ≡ h.served = after_one rest in
      let front : take (length rest) (rest ++ (own ∷ h.served)) ≡ rest = take-append_seam rest (own ∷ h.served) in
      ap (others_at names) place ∙ ap (λ ns. others_at ns (length rest)) names_split ∙ (λ i. beyond i ++ front i)
    where
      after_one : (xs : List DequeName) → drop (length xs + 1) (xs ++ (own ∷ h.served)) ≡ h.served
      after_one [] = refl
      after_one (x ∷ xs) = let more : length (x ∷ xs) + 1 ≡ suc (length xs + 1) = omega arith in rw more (after_one xs)

  pub dealing_next : (after turned : List DequeValue) (own_others : List OtherValue) → after ≡ map with_less (take (length deques - 1) deques) ++ drop (length deques - 1) deques
      → turned ≡ drop (length after - 1) after ++ take (length after - 1) after → own_others ≡ map (λ (d : DequeValue). new_other d.name) (take (length deques - 1) deques)
      → IsDealing names (made + 1) turned (others ++ own_others ∷ [])
  dealing_next after turned own_others after_is turned_is own_is =
      let fewer : length h.waiting + 1 - 1 ≡ length rest + 1 = omega (arith, waiting_count) in
      let less : length h.waiting - 1 ≡ length rest = omega (arith, waiting_count) in
      let given : map with_less giving ≡ map (empty_deque (length rest + 1)) h.served ++ map (empty_deque (length rest)) rest =
      map-append with_less (map (empty_deque (length h.waiting + 1)) h.served) (map (empty_deque (length h.waiting)) rest)
      ∙ (λ i. given_away (length h.waiting + 1) (length rest + 1) fewer h.served i ++ given_away (length h.waiting) (length rest) less rest i) in
      let now : List DequeValue = map (empty_deque (length rest + 1)) h.served ++ map (empty_deque (length rest)) rest in
      let after_split : after ≡ now ++ empty_deque (length rest + 1) own ∷ [] =
      after_is ∙ (λ i. map with_less (taken_is i) ++ dropped_is i) ∙ (λ i. given i ++ empty_deque (waiting_count i) own ∷ []) in
      let place : length after - 1 ≡ length now = omega (arith, ap length after_split, length-append now (empty_deque (length rest + 1) own ∷ [])) in
      record {
        waiting = rest;
        served = own ∷ h.served;
        split = names_split;
        count = omega (arith, h.count);
        deques_are = turned_is ∙ (λ i. drop (place i) (after_split i) ++ take (place i) (after_split i)) ∙ rotated now (empty_deque (length rest + 1) own) (length now) refl;
        others_are = rw range_with_len-more-at (
            ap (λ os. os ++ own_others ∷ []) h.others_are
            ∙ ap (λ (o : List OtherValue). stealer_lists names made ++ o ∷ []) (own_is ∙ ap (map (λ (d : DequeValue). new_other d.name)) taken_is ∙ others_split ∙ sym (ap (map new_other) others_here))
            ∙ sym (map-append (λ (i : ℕ). map new_other (others_at names (length names - 1 - i))) (range_with_len 0 made) (made ∷ [])));
      }
    where
      range_with_len-more-at : range_with_len 0 (made + 1) ≡ range_with_len 0 made ++ made ∷ []
      range_with_len-more-at = let z : 0 + made ≡ made = omega arith in range_with_len-more 0 made ∙ ap (λ n. range_with_len 0 made ++ n ∷ []) z

-- hands that meet

pub none_met : (names : List DequeName) → AreMet names []
none_met names = record { deques = refl; each = λ i h there. absurd (let bad : None ≡ Some h = there in cc) }

-- the stealers of the next hand are the last of those that are left
pub stacked_last : (names : List DequeName) (met : ℕ) (front : List (List OtherValue)) (last : List OtherValue) → met < length names → front ++ last ∷ [] ≡ stealer_lists names (length names - met)
    → (front ≡ stealer_lists names (length names - (met + 1))) × (last ≡ map new_other (others_at names met))
stacked_last names met front last more e =
    let left : ℕ = length names - (met + 1) in
    let count : length names - met ≡ left + 1 = omega (arith, more) in
    let z : 0 + left ≡ left = omega arith in
    let place : length names - 1 - left ≡ met = omega (arith, more) in
    let split : stealer_lists names (length names - met) ≡ stealer_lists names left ++ map new_other (others_at names (length names - 1 - left)) ∷ [] =
    ap (stealer_lists names) count ∙ ap (map (λ (i : ℕ). map new_other (others_at names (length names - 1 - i)))) (range_with_len-more 0 left ∙ ap (λ n. range_with_len 0 left ++ n ∷ []) z)
    ∙ map-append (λ (i : ℕ). map new_other (others_at names (length names - 1 - i))) (range_with_len 0 left) (left ∷ []) in
    let both = same_ends front (stealer_lists names left) last (map new_other (others_at names (length names - 1 - left))) (e ∙ split) in
    (both.0, both.1 ∙ ap (λ n. map new_other (others_at names n)) place)
  where
    same_ends : {A : Type 0} (xs ys : List A) (x y : A) → xs ++ x ∷ [] ≡ ys ++ y ∷ [] → (xs ≡ ys) × (x ≡ y)
    same_ends [] [] x y e = (refl, let same : x ∷ [] ≡ y ∷ [] = e in cc)
    same_ends [] (z ∷ ys) x y e = absurd (omega (arith, ap length e, length-append ys (y ∷ [])))
    same_ends (z ∷ xs) [] x y e = absurd (omega (arith, ap length e, length-append xs (x ∷ [])))
    same_ends (z ∷ xs) (w ∷ ys) x y e =
        let tails : xs ++ x ∷ [] ≡ ys ++ y ∷ [] = (let whole : z ∷ (xs ++ x ∷ []) ≡ w ∷ (ys ++ y ∷ []) = e in cc) in
        let heads : z ≡ w = (let whole : z ∷ (xs ++ x ∷ []) ≡ w ∷ (ys ++ y ∷ []) = e in cc) in
        let rest = same_ends xs ys x y tails in
        ((λ i. heads i ∷ rest.0 i), rest.1)

no_blocks : (ns : List DequeName) → flat_map (λ (o : OtherValue). o.got) (map new_other ns) ≡ []
no_blocks [] = refl
no_blocks (n ∷ ns) = no_blocks ns

other_names : (ns : List DequeName) → map (λ (o : OtherValue). o.name) (map new_other ns) ≡ ns
other_names [] = refl
other_names (n ∷ ns) = ap (λ ms. n ∷ ms) (other_names ns)

pub met_next : (names : List DequeName) (hands : List HandValue) (deque : DequeValue) (others : List OtherValue) (hand : HandValue) → AreMet names hands → length hands < length names
    → deque ≡ empty_deque 1 deque.name → take (length hands) names ++ deque.name ∷ [] ≡ take (length hands + 1) names → others ≡ map new_other (others_at names (length hands))
    → hand ≡ hand_value (hand_place deque.name deque.parts (map (λ (o : OtherValue). o.name) others)) [] deque.pushed (deque.got ++ flat_map (λ (o : OtherValue). o.got) others) Open (length deque.pushed - length deque.got)
    → AreMet names (hands ++ hand ∷ [])
met_next names hands deque others hand h more empty next others_are is =
    let is_so : hand ≡ hand_value (hand_place deque.name 1 (others_at names (length hands))) [] [] [] Open 0 =
    is
    ∙ (λ i. hand_value (hand_place deque.name (empty i).parts (map (λ (o : OtherValue). o.name) (others_are i))) [] (empty i).pushed ((empty i).got ++ flat_map (λ (o : OtherValue). o.got) (others_are i)) Open
    (length (empty i).pushed - length (empty i).got))
    ∙ (λ i. hand_value (hand_place deque.name 1 (other_names (others_at names (length hands)) i)) [] [] (no_blocks (others_at names (length hands)) i) Open 0) in
    let own : hand.place.deque ≡ deque.name = ap (λ (v : HandValue). v.place.deque) is_so in
    record {
      deques = map-append (λ (v : HandValue). v.place.deque) hands (hand ∷ []) ∙ (λ i. h.deques i ++ own i ∷ []) ∙ next ∙ sym (ap (λ n. take n names) (length-append hands (hand ∷ [])));
      each = λ i v there. elim (slice_get_of_push hands hand i v there) [
        | inl was ↦ h.each i v was
        | inr last ↦
            (let same : v ≡ hand = last.1 in
            same ∙ is_so ∙ (λ j. hand_value (hand_place (sym own j) 1 (others_at names (sym last.0 j))) [] [] [] Open 0) ∙ (λ j. hand_value (hand_place (sym same j).place.deque 1 (others_at names i)) [] [] [] Open 0))
      ];
    }

pub all_met : (names : List DequeName) (hands : List HandValue) → AreMet names hands → length hands ≡ length names → AreTogether (length names) (map (λ (v : HandValue). v.place) hands) × All IsEmptyHand hands
all_met names hands h count = (
  record {
    count = length-map hands (λ (v : HandValue). v.place) ∙ count;
    one_part = by_each (λ (p : HandPlace). p.parts ≡ 1) (λ i v there. ap (λ (w : HandValue). w.place.parts) (h.each i v there));
    others = λ i own there. let (v, at, is) = from_map (λ (p : HandPlace). p.others) i own there in
        is ∙ ap (λ (w : HandValue). w.place.others) (h.each i v at) ∙ ap (λ ns. others_at ns i) names_are;
  },
  empty,
)
  where
    names_are : names ≡ map (λ (p : HandPlace). p.deque) (map (λ (v : HandValue). v.place) hands)
    names_are = sym (deque_names hands ∙ h.deques ∙ ap (λ n. take n names) count ∙ take_whole names)
      where
        deque_names : (vs : List HandValue) → map (λ (p : HandPlace). p.deque) (map (λ (v : HandValue). v.place) vs) ≡ map (λ (v : HandValue). v.place.deque) vs
        deque_names [] = refl
        deque_names (v ∷ vs) = ap (λ ns. v.place.deque ∷ ns) (deque_names vs)

        take_whole : (ns : List DequeName) → take (length ns) ns ≡ ns
        take_whole [] = refl
        take_whole (n ∷ ns) = ap (λ ms. n ∷ ms) (take_whole ns)

    from_map : {B : Type 0} (f : HandPlace → B) (i : ℕ) (b : B) → slice_get (map f (map (λ (v : HandValue). v.place) hands)) i ≡ Some b
        → (v : HandValue) × (slice_get hands i ≡ Some v) × (b ≡ f v.place)
    from_map f i b there = walk hands i there
      where
        walk : (vs : List HandValue) (j : ℕ) → slice_get (map f (map (λ (v : HandValue). v.place) vs)) j ≡ Some b → (v : HandValue) × (slice_get vs j ≡ Some v) × (b ≡ f v.place)
        walk [] j at = absurd (let bad : None ≡ Some b = at in cc)
        walk (v ∷ vs) zero at = (v, refl, let same : Some (f v.place) ≡ Some b = at in cc)
        walk (v ∷ vs) (suc j) at = walk vs j at

    by_each : (P : HandPlace → Type 0) → ((i : ℕ) (v : HandValue) → slice_get hands i ≡ Some v → P v.place) → All P (map (λ (v : HandValue). v.place) hands)
    by_each P each = walk hands each
      where
        walk : (vs : List HandValue) → ((i : ℕ) (v : HandValue) → slice_get vs i ≡ Some v → P v.place) → All P (map (λ (v : HandValue). v.place) vs)
        walk [] f = All-nil P
        walk (v ∷ vs) f = All-cons P v.place (map (λ (w : HandValue). w.place) vs) (f 0 v refl) (walk vs (λ i. f (suc i)))

    empty : All IsEmptyHand hands
    empty = walk hands (λ i v there. let is = h.each i v there in is ∙ ap (λ (p : HandPlace). hand_value p [] [] [] Open 0) (sym (ap (λ (w : HandValue). w.place) is)))
      where
        walk : (vs : List HandValue) → ((i : ℕ) (v : HandValue) → slice_get vs i ≡ Some v → IsEmptyHand v) → All IsEmptyHand vs
        walk [] f = All-nil IsEmptyHand
        walk (v ∷ vs) f = All-cons IsEmptyHand v vs (f 0 v refl) (walk vs (λ i. f (suc i)))

-- hands that are taken apart

pub none_apart : AreApart [] [] [] []
none_apart = record { names = refl; parts = refl; others_are = refl; lists = λ x. refl; pushed = λ x. refl; got = λ x. refl; closed = λ all. (refl, refl) }

all_before : {X : Type 0} (P : X → Type 0) (xs ys : List X) → All P (xs ++ ys) → All P xs
all_before P [] ys h = All-nil P
all_before P (x ∷ xs) ys h = All-cons P x xs (All-head P x (xs ++ ys) h) (all_before P xs ys (All-tail P x (xs ++ ys) h))

marked : (n : ℕ) → 0 < n → unmarked_one n ≡ 0
marked zero lt = absurd (omega (arith, lt))
marked (suc n) lt = refl

is_marked : (n : ℕ) → unmarked_one n ≡ 0 → 0 < n
is_marked zero e = absurd (omega (arith, e))
is_marked (suc n) e = omega arith

-- who gets more marks is marked still
at_most_one : (n : ℕ) → unmarked_one n ≤ 1
at_most_one zero = omega arith
at_most_one (suc n) = omega arith

still_marked : (n more : ℕ) → unmarked_one (n + more) ≤ unmarked_one n
still_marked zero more = at_most_one (0 + more)
still_marked (suc n) more = let e : suc n + more ≡ suc (n + more) = omega arith in rw e (omega arith)

pub apart_next : (hands : List HandValue) (left : List ℕ) (deques : List DequeValue) (others : List (List OtherValue)) (hand : HandValue) (list : List ℕ) (deque : DequeValue) (own : List OtherValue)
    → AreApart hands left deques others
    → hand ≡ hand_value (hand_place deque.name deque.parts (map (λ (o : OtherValue). o.name) own)) list deque.pushed (deque.got ++ flat_map (λ (o : OtherValue). o.got) own) hand.phase hand.kept
    → (hand.phase ≡ Closed → 0 < deque.marks_got) → AreApart (hands ++ hand ∷ []) (left ++ list) (deques ++ deque ∷ []) (others ++ own ∷ [])
apart_next hands left deques others hand list deque own h is shut = record {
  names = both_more (λ (d : DequeValue). d.name) (λ (v : HandValue). v.place.deque) h.names (sym (ap (λ (v : HandValue). v.place.deque) is));
  parts = both_more (λ (d : DequeValue). d.parts) (λ (v : HandValue). v.place.parts) h.parts (sym (ap (λ (v : HandValue). v.place.parts) is));
  others_are = map-append (map (λ (o : OtherValue). o.name)) others (own ∷ []) ∙ (λ i. h.others_are i ++ sym (ap (λ (v : HandValue). v.place.others) is) i ∷ []) ∙ sym (map-append (λ (v : HandValue). v.place.others) hands (hand ∷ []));
  lists = λ x. omega (arith, times_append x left list, h.lists x, total_snoc (λ (v : HandValue). times x v.list) hands hand, ap (λ (v : HandValue). times x v.list) is);
  pushed = λ x. omega (arith, h.pushed x, total_snoc (λ (d : DequeValue). times x d.pushed) deques deque, total_snoc (λ (v : HandValue). times x v.pushed) hands hand, ap (λ (v : HandValue). times x v.pushed) is);
  got = λ x. omega (
    arith,
    h.got x,
    total_snoc (λ (d : DequeValue). times x d.got) deques deque,
    total_snoc (λ (os : List OtherValue). times x (all_got os)) others own,
    total_snoc (λ (v : HandValue). times x v.got) hands hand,
    ap (λ (v : HandValue). times x v.got) is,
    times_append x deque.got (all_got own),
  );
  closed = λ all.
      let before = h.closed (all_before IsShut hands (hand ∷ []) all) in
      let last : IsShut hand = all_middle IsShut hands [] (hands ++ hand ∷ []) hand refl all in
      let none : list ≡ [] = sym (ap (λ (v : HandValue). v.list) is) ∙ last.1 in
      ((λ i. before.0 i ++ none i), omega (arith, before.1, total_snoc (λ (d : DequeValue). unmarked_one d.marks_got) deques deque, marked deque.marks_got (shut last.0)));
}
  where
    both_more : {B : Type 0} (f : DequeValue → B) (g : HandValue → B) → map f deques ≡ map g hands → f deque ≡ g hand → map f (deques ++ deque ∷ []) ≡ map g (hands ++ hand ∷ [])
    both_more f g e own_is = map-append f deques (deque ∷ []) ∙ (λ i. e i ++ own_is i ∷ []) ∙ sym (map-append g hands (hand ∷ []))

-- stealers that are given back, one to each deque in order

merged_none : (ds : List DequeValue) → deques_with ds [] ≡ []
merged_none [] = refl
merged_none (d ∷ ds) = refl

pub nothing_back : (ds : List DequeValue) → ds ≡ deques_with ds [] ++ ds
nothing_back ds = ap (λ fs. fs ++ ds) (sym (merged_none ds))

pub length_back : (ds : List DequeValue) (os : List OtherValue) → length os ≤ length ds → length (deques_with ds os ++ drop (length os) ds) ≡ length ds
length_back [] [] le = refl
length_back [] (o ∷ os) le = absurd (omega (arith, le))
length_back (d ∷ ds) [] le = refl
length_back (d ∷ ds) (o ∷ os) le = ap suc (length_back ds os (omega (arith, le)))

pub back_next : (ds : List DequeValue) (os : List OtherValue) (o : OtherValue) (d : DequeValue) → length os < length ds → d ≡ slice_index_or (deques_with ds os ++ drop (length os) ds) (length os) d
    → slice_set (deques_with ds os ++ drop (length os) ds) (length os) (with_back d o) ≡ deques_with ds (os ++ o ∷ []) ++ drop (length (os ++ o ∷ [])) ds
back_next [] os o d lt at = absurd (omega (arith, lt))
back_next (e ∷ ds) [] o d lt at = ap (λ f. with_back f o ∷ ds) at ∙ ap (λ fs. with_back e o ∷ (fs ++ ds)) (sym (merged_none ds))
back_next (e ∷ ds) (p ∷ os) o d lt at = ap (λ fs. with_back e p ∷ fs) (back_next ds os o d (omega (arith, lt)) at)

-- the deque at hand has the name of the stealer that comes back
pub back_name : (ds : List DequeValue) (os : List OtherValue) (o : OtherValue) (rest : List OtherValue) (d : DequeValue) → length os < length ds
    → map (λ (p : OtherValue). p.name) (os ++ o ∷ rest) ≡ take (length (os ++ o ∷ rest)) (map (λ (e : DequeValue). e.name) ds)
    → d ≡ slice_index_or (deques_with ds os ++ drop (length os) ds) (length os) d → o.name ≡ d.name
back_name [] os o rest d lt names at = absurd (omega (arith, lt))
back_name (e ∷ ds) [] o rest d lt names at =
    let first : o.name ≡ e.name = (let whole : o.name ∷ map (λ (p : OtherValue). p.name) rest ≡ e.name ∷ take (length rest) (map (λ (f : DequeValue). f.name) ds) = names in cc) in
    first ∙ ap (λ (f : DequeValue). f.name) (sym at)
back_name (e ∷ ds) (p ∷ os) o rest d lt names at =
    let tails : map (λ (q : OtherValue). q.name) (os ++ o ∷ rest) ≡ take (length (os ++ o ∷ rest)) (map (λ (f : DequeValue). f.name) ds) =
    (let whole : p.name ∷ map (λ (q : OtherValue). q.name) (os ++ o ∷ rest) ≡ e.name ∷ take (length (os ++ o ∷ rest)) (map (λ (f : DequeValue). f.name) ds) = names in cc) in
    back_name ds os o rest d (omega (arith, lt)) tails at

-- there are no more stealers than deques
pub no_more : {A B : Type 0} (xs : List A) (f : A → B) (ys : List B) → map f xs ≡ take (length xs) ys → length xs ≤ length ys
no_more [] f ys e = omega arith
no_more (x ∷ xs) f [] e = absurd (omega (arith, ap length e))
no_more (x ∷ xs) f (y ∷ ys) e = let tails : map f xs ≡ take (length xs) ys = (let whole : f x ∷ map f xs ≡ y ∷ take (length xs) ys = e in cc) in omega (arith, no_more xs f ys tails)

-- the first deques get the stealers, and the others stay
merged_front : (ds es : List DequeValue) (os : List OtherValue) → length os ≡ length ds → deques_with (ds ++ es) os ++ drop (length os) (ds ++ es) ≡ deques_with ds os ++ es
merged_front [] [] [] e = refl
merged_front [] (x ∷ es) [] e = refl
merged_front [] es (o ∷ os) e = absurd (omega (arith, e))
merged_front (d ∷ ds) es [] e = absurd (omega (arith, e))
merged_front (d ∷ ds) es (o ∷ os) e = ap (λ fs. with_back d o ∷ fs) (merged_front ds es os (omega (arith, e)))

merged_names : (ds : List DequeValue) (os : List OtherValue) → length os ≡ length ds → map (λ (d : DequeValue). d.name) (deques_with ds os) ≡ map (λ (d : DequeValue). d.name) ds
merged_names [] os e = refl
merged_names (d ∷ ds) [] e = absurd (omega (arith, e))
merged_names (d ∷ ds) (o ∷ os) e = ap (λ ns. d.name ∷ ns) (merged_names ds os (omega (arith, e)))

merged_parts : (n : ℕ) (ds : List DequeValue) (os : List OtherValue) → All (λ (d : DequeValue). d.parts ≡ n) ds → All (λ (d : DequeValue). d.parts ≡ n + 1) (deques_with ds os)
merged_parts n [] os h = All-nil (λ (d : DequeValue). d.parts ≡ n + 1)
merged_parts n (d ∷ ds) [] h = All-nil (λ (e : DequeValue). e.parts ≡ n + 1)
merged_parts n (d ∷ ds) (o ∷ os) h =
    let own : d.parts ≡ n = All-head (λ (e : DequeValue). e.parts ≡ n) d ds h in
    All-cons (λ (e : DequeValue). e.parts ≡ n + 1) (with_back d o) (deques_with ds os) (omega (arith, own)) (merged_parts n ds os (All-tail (λ (e : DequeValue). e.parts ≡ n) d ds h))

merged_pushed : (x : ℕ) (ds : List DequeValue) (os : List OtherValue) → length os ≡ length ds → total (λ (d : DequeValue). times x d.pushed) (deques_with ds os) ≡ total (λ (d : DequeValue). times x d.pushed) ds
merged_pushed x [] os e = refl
merged_pushed x (d ∷ ds) [] e = absurd (omega (arith, e))
merged_pushed x (d ∷ ds) (o ∷ os) e = omega (arith, merged_pushed x ds os (omega (arith, e)))

merged_got : (x : ℕ) (ds : List DequeValue) (os : List OtherValue) → length os ≡ length ds → total (λ (d : DequeValue). times x d.got) (deques_with ds os) ≡ total (λ (d : DequeValue). times x d.got) ds + times x (all_got os)
merged_got x [] [] e = refl
merged_got x [] (o ∷ os) e = absurd (omega (arith, e))
merged_got x (d ∷ ds) [] e = absurd (omega (arith, e))
merged_got x (d ∷ ds) (o ∷ os) e = omega (arith, merged_got x ds os (omega (arith, e)), times_append x d.got o.got, times_append x o.got (all_got os))

merged_unmarked : (ds : List DequeValue) (os : List OtherValue) → unmarked_count (deques_with ds os) ≤ unmarked_count ds
merged_unmarked [] os = omega arith
merged_unmarked (d ∷ ds) [] = omega arith
merged_unmarked (d ∷ ds) (o ∷ os) = omega (arith, merged_unmarked ds os, still_marked d.marks_got o.marks_got)

merged_append : (ds es : List DequeValue) (os : List OtherValue) → deques_with (ds ++ es) os ≡ deques_with ds os ++ deques_with es (drop (length ds) os)
merged_append [] es os = refl
merged_append (d ∷ ds) [] [] = refl
merged_append (d ∷ ds) (e ∷ es) [] = refl
merged_append (d ∷ ds) es (o ∷ os) = ap (λ fs. with_back d o ∷ fs) (merged_append ds es os)

length_merged : (ds : List DequeValue) (os : List OtherValue) → length ds ≤ length os → length (deques_with ds os) ≡ length ds
length_merged [] os le = refl
length_merged (d ∷ ds) [] le = absurd (omega (arith, le))
length_merged (d ∷ ds) (o ∷ os) le = ap suc (length_merged ds os (omega (arith, le)))

-- as the stealers come back, those of the last hand first
pub record IsReuniting (first : List DequeValue) (all : List (List OtherValue)) (deques : List DequeValue) (others : List (List OtherValue)) : Type 0 where
  pub back : List DequeValue
  pub waiting : List DequeValue
  pub gone : List (List OtherValue)
  pub deques_are : deques ≡ back ++ waiting
  pub all_are : all ≡ others ++ gone
  pub names : map (λ (d : DequeValue). d.name) (waiting ++ back) ≡ map (λ (d : DequeValue). d.name) first
  pub count : length waiting ≡ length others
  pub back_parts : All (λ (d : DequeValue). d.parts ≡ length back) back
  pub waiting_parts : All (λ (d : DequeValue). d.parts ≡ length back + 1) waiting
  pub pushed : (x : ℕ) → total (λ (d : DequeValue). times x d.pushed) deques ≡ total (λ (d : DequeValue). times x d.pushed) first
  pub got : (x : ℕ) → total (λ (d : DequeValue). times x d.got) deques ≡ total (λ (d : DequeValue). times x d.got) first + total (λ (os : List OtherValue). times x (all_got os)) gone
  pub closed : unmarked_count deques ≤ unmarked_count first

pub reuniting_begins : (first : List DequeValue) (all : List (List OtherValue)) → length all ≡ length first → All (λ (d : DequeValue). d.parts ≡ 1) first → IsReuniting first all first all
reuniting_begins first all count parts = record {
  back = [];
  waiting = first;
  gone = [];
  deques_are = refl;
  all_are = sym (append-nil all);
  names = ap (map (λ (d : DequeValue). d.name)) (append-nil first);
  count = sym count;
  back_parts = All-nil (λ (d : DequeValue). d.parts ≡ 0);
  waiting_parts = parts;
  pushed = λ x. refl;
  got = λ x. omega arith;
  closed = omega arith;
}

pub length_names : (ds : List DequeValue) → length (map (λ (d : DequeValue). d.name) ds) ≡ length ds
length_names [] = refl
length_names (d ∷ ds) = ap suc (length_names ds)

pub reuniting_ends : (first : List DequeValue) (all : List (List OtherValue)) (deques : List DequeValue) (others : List (List OtherValue)) → IsReuniting first all deques others → length others ≡ 0
    → AreWhole (length first) first all deques
reuniting_ends first all deques others h none = record {
  parts = subst (λ (ds : List DequeValue). All (λ (d : DequeValue). d.parts ≡ length first) ds) (sym all_back) (subst (λ (n : ℕ). All (λ (d : DequeValue). d.parts ≡ n) h.back) as_many h.back_parts);
  pushed = h.pushed;
  got = λ x. h.got x ∙ ap (λ (os : List (List OtherValue)). total (λ (d : DequeValue). times x d.got) first + total (λ (o : List OtherValue). times x (all_got o)) os) (sym (h.all_are ∙ ap (λ os. os ++ h.gone) (no_elements others none)));
  closed = h.closed;
}
  where
    no_elements : {A : Type 0} (xs : List A) → length xs ≡ 0 → xs ≡ []
    no_elements [] e = refl
    no_elements (x ∷ xs) e = absurd (omega (arith, e))

    all_back : deques ≡ h.back
    all_back = h.deques_are ∙ ap (λ ds. h.back ++ ds) (no_elements h.waiting (h.count ∙ none)) ∙ append-nil h.back

    as_many : length h.back ≡ length first
    as_many = omega (arith, ap length h.names, length_names (h.waiting ++ h.back), length_names first, length-append h.waiting h.back, h.count, none)

-- the next stealers that come back
module _ (first : List DequeValue) (all : List (List OtherValue)) (deques : List DequeValue) (others front : List (List OtherValue)) (own : List OtherValue) (h : IsReuniting first all deques others) (popped : others ≡ front ++ own ∷ [])
    (names : AreOthers (map (λ (d : DequeValue). d.name) first) (map (map (λ (o : OtherValue). o.name)) all)) where
  pub some_wait : 0 < length h.waiting
  some_wait = omega (arith, h.count, ap length popped, length-append front (own ∷ []))

  abbrev wait : List DequeValue
  wait = (fronted h.waiting some_wait).front

  abbrev its : DequeValue
  its = (fronted h.waiting some_wait).last

  wait_is : h.waiting ≡ wait ++ its ∷ []
  wait_is = (fronted h.waiting some_wait).is

  wait_count : length wait ≡ length front
  wait_count = omega (arith, ap length wait_is, length-append wait (its ∷ []), h.count, ap length popped, length-append front (own ∷ []))

  all_split : all ≡ front ++ (own ∷ h.gone)
  all_split = h.all_are ∙ ap (λ os. os ++ h.gone) popped ∙ append_assoc front (own ∷ []) h.gone

  first_split : map (λ (d : DequeValue). d.name) first ≡ map (λ (d : DequeValue). d.name) wait ++ (its.name ∷ map (λ (d : DequeValue). d.name) h.back)
  first_split = sym h.names ∙ ap (λ ds. map (λ (d : DequeValue). d.name) (ds ++ h.back)) wait_is ∙ ap (map (λ (d : DequeValue). d.name)) (append_assoc wait (its ∷ []) h.back) ∙ map-append (λ (d : DequeValue). d.name) wait (its ∷ h.back)

  own_there : (fs : List (List OtherValue)) → slice_get (map (map (λ (o : OtherValue). o.name)) (fs ++ (own ∷ h.gone))) (length fs) ≡ Some (map (λ (o : OtherValue). o.name) own)
  own_there [] = refl
  own_there (f ∷ fs) = own_there fs

  own_names : map (λ (o : OtherValue). o.name) own ≡ map (λ (d : DequeValue). d.name) (h.back ++ wait)
  own_names =
      let is : map (λ (o : OtherValue). o.name) own ≡ others_at (map (λ (d : DequeValue). d.name) first) (length front) = names (length front) (map (λ (o : OtherValue). o.name) own) (rw all_split (own_there front)) in
      let place : length front ≡ length (map (λ (d : DequeValue). d.name) wait) = sym wait_count ∙ sym (length_names wait) in
      is ∙ (λ i. others_at (first_split i) (place i))
      ∙ (λ i. beyond (map (λ (d : DequeValue). d.name) wait) i ++ take-append_seam (map (λ (d : DequeValue). d.name) wait) (its.name ∷ map (λ (d : DequeValue). d.name) h.back) i)
      ∙ sym (map-append (λ (d : DequeValue). d.name) h.back wait)
    where
      beyond : (xs : List DequeName) → drop (length xs + 1) (xs ++ (its.name ∷ map (λ (d : DequeValue). d.name) h.back)) ≡ map (λ (d : DequeValue). d.name) h.back
      beyond [] = refl
      beyond (x ∷ xs) = let more : length (x ∷ xs) + 1 ≡ suc (length xs + 1) = omega arith in rw more (beyond xs)

  back_split : deques ≡ (h.back ++ wait) ++ its ∷ []
  back_split = h.deques_are ∙ ap (λ ds. h.back ++ ds) wait_is ∙ sym (append_assoc h.back wait (its ∷ []))

  own_count : length own ≡ length (h.back ++ wait)
  own_count = sym (length_other own) ∙ ap length own_names ∙ length_names (h.back ++ wait)
    where
      length_other : (os : List OtherValue) → length (map (λ (o : OtherValue). o.name) os) ≡ length os
      length_other [] = refl
      length_other (o ∷ os) = ap suc (length_other os)

  -- each stealer is one of the deque that stands at its place
  pub own_fit : map (λ (o : OtherValue). o.name) own ≡ take (length own) (map (λ (d : DequeValue). d.name) deques)
  own_fit =
      let place : length own ≡ length (map (λ (d : DequeValue). d.name) (h.back ++ wait)) = own_count ∙ sym (length_names (h.back ++ wait)) in
      own_names ∙ sym (take-append_seam (map (λ (d : DequeValue). d.name) (h.back ++ wait)) (its.name ∷ []))
      ∙ (λ i. take (sym place i) (sym (map-append (λ (d : DequeValue). d.name) (h.back ++ wait) (its ∷ [])) i))
      ∙ ap (λ ds. take (length own) (map (λ (d : DequeValue). d.name) ds)) (sym back_split)

  abbrev knowing : List DequeValue
  knowing = deques_with (h.back ++ wait) own

  pub after_split : (after : List DequeValue) → after ≡ deques_with deques own ++ drop (length own) deques → after ≡ knowing ++ its ∷ []
  after_split after after_is = after_is ∙ ap (λ ds. deques_with ds own ++ drop (length own) ds) back_split ∙ merged_front (h.back ++ wait) (its ∷ []) own own_count

  pub some_after : (after : List DequeValue) → after ≡ deques_with deques own ++ drop (length own) deques → 1 ≤ length after
  some_after after after_is = omega (arith, ap length (after_split after after_is), length-append knowing (its ∷ []))

  pub reuniting_next : (after turned : List DequeValue) → after ≡ deques_with deques own ++ drop (length own) deques → turned ≡ drop (length after - 1) after ++ take (length after - 1) after → IsReuniting first all turned front
  reuniting_next after turned after_is turned_is =
      let split = after_split after after_is in
      let place : length after - 1 ≡ length knowing = omega (arith, ap length split, length-append knowing (its ∷ [])) in
      let turned_split : turned ≡ its ∷ knowing = turned_is ∙ (λ i. drop (place i) (split i) ++ take (place i) (split i)) ∙ rotated knowing its (length knowing) refl in
      let both : knowing ≡ deques_with h.back own ++ deques_with wait (drop (length h.back) own) = merged_append h.back wait own in
      let enough : length h.back ≤ length own = omega (arith, own_count, length-append h.back wait) in
      let back_count : length (deques_with h.back own) ≡ length h.back = length_merged h.back own enough in
      let its_parts : its.parts ≡ length h.back + 1 = last_holds (λ (d : DequeValue). d.parts ≡ length h.back + 1) wait (subst (All (λ (d : DequeValue). d.parts ≡ length h.back + 1)) wait_is h.waiting_parts) in
      let now_count : length (its ∷ deques_with h.back own) ≡ length h.back + 1 = omega (arith, back_count) in
      let back_names : map (λ (d : DequeValue). d.name) (deques_with h.back own) ≡ map (λ (d : DequeValue). d.name) h.back = front_names h.back own enough in
      let wait_names : map (λ (d : DequeValue). d.name) (deques_with wait (drop (length h.back) own)) ≡ map (λ (d : DequeValue). d.name) wait =
      merged_names wait (drop (length h.back) own) (omega (arith, dropped h.back own enough, own_count, length-append h.back wait)) in
      record {
        back = its ∷ deques_with h.back own;
        waiting = deques_with wait (drop (length h.back) own);
        gone = own ∷ h.gone;
        deques_are = turned_split ∙ ap (λ ds. its ∷ ds) both;
        all_are = all_split;
        names = map-append (λ (d : DequeValue). d.name) (deques_with wait (drop (length h.back) own)) (its ∷ deques_with h.back own) ∙ (λ i. wait_names i ++ (its.name ∷ back_names i)) ∙ sym first_split;
        count = sym (length_names (deques_with wait (drop (length h.back) own))) ∙ ap length wait_names ∙ length_names wait ∙ wait_count;
        back_parts = subst (λ (n : ℕ). All (λ (d : DequeValue). d.parts ≡ n) (its ∷ deques_with h.back own)) (sym now_count)
            (All-cons (λ (d : DequeValue). d.parts ≡ length h.back + 1) its (deques_with h.back own) its_parts (merged_parts (length h.back) h.back own h.back_parts));
        waiting_parts = subst (λ (n : ℕ). All (λ (d : DequeValue). d.parts ≡ n + 1) (deques_with wait (drop (length h.back) own))) (sym now_count)
            (merged_parts (length h.back + 1) wait (drop (length h.back) own) (front_holds (λ (d : DequeValue). d.parts ≡ length h.back + 1) wait (subst (All (λ (d : DequeValue). d.parts ≡ length h.back + 1)) wait_is h.waiting_parts)));
        pushed = λ x. omega (
          arith,
          ap (total (λ (d : DequeValue). times x d.pushed)) turned_split,
          merged_pushed x (h.back ++ wait) own own_count,
          ap (total (λ (d : DequeValue). times x d.pushed)) back_split,
          total_snoc (λ (d : DequeValue). times x d.pushed) (h.back ++ wait) its,
          h.pushed x,
        );
        got = λ x. omega (
          arith,
          ap (total (λ (d : DequeValue). times x d.got)) turned_split,
          merged_got x (h.back ++ wait) own own_count,
          ap (total (λ (d : DequeValue). times x d.got)) back_split,
          total_snoc (λ (d : DequeValue). times x d.got) (h.back ++ wait) its,
          h.got x,
        );
        closed = omega (
          arith,
          ap unmarked_count turned_split,
          merged_unmarked (h.back ++ wait) own,
          ap unmarked_count back_split,
          total_snoc (λ (d : DequeValue). unmarked_one d.marks_got) (h.back ++ wait) its,
          h.closed,
        );
      }
    where
      last_holds : (P : DequeValue → Type 0) (ds : List DequeValue) → All P (ds ++ its ∷ []) → P its
      last_holds P [] f = All-head P its [] f
      last_holds P (d ∷ ds) f = last_holds P ds (All-tail P d (ds ++ its ∷ []) f)

      front_holds : (P : DequeValue → Type 0) (ds : List DequeValue) → All P (ds ++ its ∷ []) → All P ds
      front_holds P [] f = All-nil P
      front_holds P (d ∷ ds) f = All-cons P d ds (All-head P d (ds ++ its ∷ []) f) (front_holds P ds (All-tail P d (ds ++ its ∷ []) f))

      front_names : (ds : List DequeValue) (os : List OtherValue) → length ds ≤ length os → map (λ (d : DequeValue). d.name) (deques_with ds os) ≡ map (λ (d : DequeValue). d.name) ds
      front_names [] os le = refl
      front_names (d ∷ ds) [] le = absurd (omega (arith, le))
      front_names (d ∷ ds) (o ∷ os) le = ap (λ ns. d.name ∷ ns) (front_names ds os (omega (arith, le)))

      dropped : (ds : List DequeValue) (os : List OtherValue) → length ds ≤ length os → length (drop (length ds) os) + length ds ≡ length os
      dropped [] os le = omega arith
      dropped (d ∷ ds) [] le = absurd (omega (arith, le))
      dropped (d ∷ ds) (o ∷ os) le = omega (arith, dropped ds os (omega (arith, le)))

-- what is left in deques

pub nothing_left : (blocks : ℕ) (list : List ℕ) → AddsAllLeft blocks [] list list
nothing_left blocks list = record { left = []; beyond = sym (append-nil list); together = λ x. refl; below = All-nil (λ (x : ℕ). x < blocks); closed = λ none. refl }

pub left_next : (blocks : ℕ) (deques : List DequeValue) (deque : DequeValue) (first before after : List ℕ) → AddsAllLeft blocks deques first before → AddsLeft blocks deque before after
    → AddsAllLeft blocks (deques ++ deque ∷ []) first after
left_next blocks deques deque first before after h own = record {
  left = h.left ++ own.left;
  beyond = own.beyond ∙ ap (λ xs. xs ++ own.left) h.beyond ∙ append_assoc first h.left own.left;
  together = λ x. omega (arith, h.together x, own.together x, times_append x h.left own.left, total_snoc (λ (d : DequeValue). times x d.pushed) deques deque, total_snoc (λ (d : DequeValue). times x d.got) deques deque);
  below = All-append (λ (x : ℕ). x < blocks) h.left own.left h.below own.below;
  closed = λ none.
      let both = total_snoc (λ (d : DequeValue). unmarked_one d.marks_got) deques deque in
      let before = h.closed (omega (arith, none, both)) in
      let last = own.closed (is_marked deque.marks_got (omega (arith, none, both))) in
      λ i. before i ++ last i;
}

pub all_left : (blocks workers : ℕ) (hands : List HandValue) (lists : List ℕ) (deques whole : List DequeValue) (others : List (List OtherValue)) (left : List ℕ)
    → AreApart hands lists deques others → AreWhole workers deques others whole → AddsAllLeft blocks whole lists left → AreLeft hands left
all_left blocks workers hands lists deques whole others left a w l = record {
  together = λ x. omega (arith, a.lists x, a.pushed x, a.got x, w.pushed x, w.got x, l.together x, ap (times x) l.beyond, times_append x lists l.left);
}

-- where all hands are shut, nothing is left
pub none_left : (blocks workers : ℕ) (hands : List HandValue) (lists : List ℕ) (deques whole : List DequeValue) (others : List (List OtherValue)) (left : List ℕ)
    → AreApart hands lists deques others → AreWhole workers deques others whole → AddsAllLeft blocks whole lists left → All IsShut hands → left ≡ []
none_left blocks workers hands lists deques whole others left a w l all =
    let shut = a.closed all in
    let none = l.closed (omega (arith, shut.1, w.closed)) in
    l.beyond ∙ (λ i. shut.0 i ++ none i)

-- what hands say together

map_place : {B : Type 0} (f : HandPlace → B) (hs : List HandValue) → map f (map (λ (h : HandValue). h.place) hs) ≡ map (λ (h : HandValue). f h.place) hs
map_place f [] = refl
map_place f (h ∷ hs) = ap (λ bs. f h.place ∷ bs) (map_place f hs)

module _ (workers : ℕ) (hands : List HandValue) (left : List ℕ) (deques : List DequeValue) (others : List (List OtherValue)) (t : AreTogether workers (map (λ (h : HandValue). h.place) hands)) (a : AreApart hands left deques others) where
  pub apart_count : length deques ≡ workers
  apart_count = sym (length-map deques (λ (d : DequeValue). d.name)) ∙ ap length a.names ∙ length-map hands (λ (h : HandValue). h.place.deque) ∙ sym (length-map hands (λ (h : HandValue). h.place)) ∙ t.count

  pub apart_as_many : length others ≡ length deques
  apart_as_many = sym (length-map others (map (λ (o : OtherValue). o.name))) ∙ ap length a.others_are ∙ length-map hands (λ (h : HandValue). h.place.others) ∙ sym (length-map hands (λ (h : HandValue). h.place.deque)) ∙ sym (ap length a.names)
      ∙ length-map deques (λ (d : DequeValue). d.name)

  pub apart_one_part : All (λ (d : DequeValue). d.parts ≡ 1) deques
  apart_one_part = walk deques hands a.parts t.one_part
    where
      walk : (ds : List DequeValue) (hs : List HandValue) → map (λ (d : DequeValue). d.parts) ds ≡ map (λ (h : HandValue). h.place.parts) hs → All (λ (p : HandPlace). p.parts ≡ 1) (map (λ (h : HandValue). h.place) hs)
          → All (λ (d : DequeValue). d.parts ≡ 1) ds
      walk [] hs e all = All-nil (λ (d : DequeValue). d.parts ≡ 1)
      walk (d ∷ ds) [] e all = absurd (omega (arith, ap length e))
      walk (d ∷ ds) (h ∷ hs) e all =
          let whole : d.parts ∷ map (λ (c : DequeValue). c.parts) ds ≡ h.place.parts ∷ map (λ (k : HandValue). k.place.parts) hs = e in
          let same : d.parts ≡ h.place.parts = cc in
          let rest : map (λ (c : DequeValue). c.parts) ds ≡ map (λ (k : HandValue). k.place.parts) hs = cc in
          All-cons (λ (c : DequeValue). c.parts ≡ 1) d ds (same ∙ All-head (λ (p : HandPlace). p.parts ≡ 1) h.place (map (λ (k : HandValue). k.place) hs) all)
          (walk ds hs rest (All-tail (λ (p : HandPlace). p.parts ≡ 1) h.place (map (λ (k : HandValue). k.place) hs) all))

  pub apart_others : AreOthers (map (λ (d : DequeValue). d.name) deques) (map (map (λ (o : OtherValue). o.name)) others)
  apart_others i own there =
      let was : slice_get (map (λ (p : HandPlace). p.others) (map (λ (h : HandValue). h.place) hands)) i ≡ Some own = ap (λ os. slice_get os i) (map_place (λ (p : HandPlace). p.others) hands ∙ sym a.others_are) ∙ there in
      t.others i own was ∙ ap (λ ns. others_at ns i) (map_place (λ (p : HandPlace). p.deque) hands ∙ sym a.names)

-- as hands are made of deques

pub deque_names : (n : ℕ) (ns : List DequeName) → map (λ (d : DequeValue). d.name) (map (empty_deque n) ns) ≡ ns
deque_names n [] = refl
deque_names n (m ∷ ms) = ap (λ ns. m ∷ ns) (deque_names n ms)

pub are_empty : (n : ℕ) (ns : List DequeName) → All (λ (d : DequeValue). d ≡ empty_deque n d.name) (map (empty_deque n) ns)
are_empty n [] = All-nil (λ (d : DequeValue). d ≡ empty_deque n d.name)
are_empty n (m ∷ ms) = All-cons (λ (d : DequeValue). d ≡ empty_deque n d.name) (empty_deque n m) (map (empty_deque n) ms) refl (are_empty n ms)

pub stacked_length : (names : List DequeName) (count : ℕ) → length (stealer_lists names count) ≡ count
stacked_length names count = length-map (range_with_len 0 count) (λ (i : ℕ). map new_other (others_at names (length names - 1 - i))) ∙ length-range_with_len 0 count

pub next_name : (ys : List DequeValue) (x : DequeValue) (rest : List DequeValue)
    → take (length ys) (map (λ (d : DequeValue). d.name) (ys ++ x ∷ rest)) ++ x.name ∷ [] ≡ take (length ys + 1) (map (λ (d : DequeValue). d.name) (ys ++ x ∷ rest))
next_name [] x rest = refl
next_name (y ∷ ys) x rest = let more : length (y ∷ ys) + 1 ≡ suc (length ys + 1) = omega arith in rw more (ap (λ ns. y.name ∷ ns) (next_name ys x rest))
