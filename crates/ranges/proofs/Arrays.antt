-- Arrays that a loop fills, and lists taken together element by element.
use Rattle.std.proofs.Common.{◌≡◌, ◌≢◌, ℕ, zero, suc, ◌+◌, ◌<◌, inl, inr, List, [], ◌∷◌, length, map, get_or, sym, ◌∙◌, ◌≤◌, ap, arith, refl}
use Rattle.std.specs.Prelude.{set}
use Rattle.std.proofs.lemmas.Bool.{cases_lt}
use Rattle.std.proofs.lemmas.List.{get_or-set_same, get_or-set_other, get_or_default, map-set, length-set}
use Rattle.ranges.specs.Groups.{zip_with, map_places}

-- the elements below n are right; after one more, those below n + 1
pub one_more : {X Y : Type 0} (f : X → Y) (right : ℕ → Y) (out : List X) (n : ℕ) (x d : X) → n < length out
    → ((k : ℕ) → k < n → f (get_or out k d) ≡ right k) → f x ≡ right n
    → (k : ℕ) → k < n + 1 → f (get_or (set out n x) k d) ≡ right k
one_more f right out n x d inside before here k small =
    elim (cases_lt k n) [
      | inl lt ↦ let other : k ≢ n = λ e. omega arith in
          rw (get_or-set_other out n k x d other) (before k lt)
      | inr ge ↦ let e : k ≡ n = omega arith in
          rw (e, get_or-set_same out n x d inside) here
    ]

-- an array that holds at each place what two others give there
pub zip_filled : {X Y : Type 0} (f : X → Y) (j : Y → Y → Y) (a b out : List X) (d : X) → length b ≡ length a → length out ≡ length a
    → ((k : ℕ) → k < length a → f (get_or out k d) ≡ j (f (get_or a k d)) (f (get_or b k d)))
    → map f out ≡ zip_with j (map f a) (map f b)
unfolding zip_with
zip_filled f j [] b [] d lb lo h = refl
zip_filled f j [] b (o ∷ os) d lb lo h = absurd (let bad : suc (length os) ≡ 0 = lo in cc)
zip_filled f j (x ∷ xs) [] out d lb lo h = absurd (let bad : 0 ≡ suc (length xs) = lb in cc)
zip_filled f j (x ∷ xs) (y ∷ ys) [] d lb lo h = absurd (let bad : 0 ≡ suc (length xs) = lo in cc)
zip_filled f j (x ∷ xs) (y ∷ ys) (o ∷ os) d lb lo h =
    let here : f o ≡ j (f x) (f y) = h 0 (omega arith) in
    let lys : length ys ≡ length xs = omega arith in
    let los : length os ≡ length xs = omega arith in
    let rest : map f os ≡ zip_with j (map f xs) (map f ys) = zip_filled f j xs ys os d lys los (λ k small. h (suc k) (omega arith)) in
    rw (here, rest) refl

-- one that holds at each place what another gives there
pub map_filled : {X Y : Type 0} (f : X → Y) (r : Y → Y) (a out : List X) (d : X) → length out ≡ length a
    → ((k : ℕ) → k < length a → f (get_or out k d) ≡ r (f (get_or a k d)))
    → map f out ≡ map r (map f a)
map_filled f r [] [] d lo h = refl
map_filled f r [] (o ∷ os) d lo h = absurd (let bad : suc (length os) ≡ 0 = lo in cc)
map_filled f r (x ∷ xs) [] d lo h = absurd (let bad : 0 ≡ suc (length xs) = lo in cc)
map_filled f r (x ∷ xs) (o ∷ os) d lo h =
    let here : f o ≡ r (f x) = h 0 (omega arith) in
    let los : length os ≡ length xs = omega arith in
    let rest : map f os ≡ map r (map f xs) = map_filled f r xs os d los (λ k small. h (suc k) (omega arith)) in
    rw (here, rest) refl

-- where two lists together give the first, each place of them does
pub zip_same_at : {X Y : Type 0} (f : X → Y) (j : Y → Y → Y) (a b : List X) (d : X) → length b ≡ length a
    → zip_with j (map f a) (map f b) ≡ map f a
    → (k : ℕ) → k < length a → j (f (get_or a k d)) (f (get_or b k d)) ≡ f (get_or a k d)
unfolding zip_with
zip_same_at f j [] b d lb e k small = absurd (let bad : k < 0 = small in omega arith)
zip_same_at f j (x ∷ xs) [] d lb e k small = absurd (let bad : 0 ≡ suc (length xs) = lb in cc)
zip_same_at f j (x ∷ xs) (y ∷ ys) d lb e zero small =
    let whole : j (f x) (f y) ∷ zip_with j (map f xs) (map f ys) ≡ f x ∷ map f xs = e in
    let here : j (f x) (f y) ≡ f x = cc in here
zip_same_at f j (x ∷ xs) (y ∷ ys) d lb e (suc k) small =
    let whole : j (f x) (f y) ∷ zip_with j (map f xs) (map f ys) ≡ f x ∷ map f xs = e in
    let rest : zip_with j (map f xs) (map f ys) ≡ map f xs = cc in
    let lys : length ys ≡ length xs = omega arith in
    zip_same_at f j xs ys d lys rest k (omega arith)

map_same : {X : Type 0} (xs : List X) → map (λ x. x) xs ≡ xs
map_same [] = refl
map_same (x ∷ xs) = rw (map_same xs) refl

-- the same of lists that are seen as they are
pub zip_filled_plain : {X : Type 0} (j : X → X → X) (a b out : List X) (d : X) → length b ≡ length a → length out ≡ length a
    → ((k : ℕ) → k < length a → get_or out k d ≡ j (get_or a k d) (get_or b k d))
    → out ≡ zip_with j a b
zip_filled_plain j a b out d lb lo h =
    let mapped : map (λ x. x) out ≡ zip_with j (map (λ x. x) a) (map (λ x. x) b) = zip_filled (λ x. x) j a b out d lb lo h in
    let out_is : map (λ x. x) out ≡ out = map_same out in
    let a_is : map (λ x. x) a ≡ a = map_same a in
    let b_is : map (λ x. x) b ≡ b = map_same b in
    rw (sym out_is, mapped, a_is, b_is) refl

-- an element that was read is the one of that place, whatever stands for a place past the end
pub read_two : {X Y : Type 0} (f : X → Y) (j : Y → Y → Y) (a b : List X) (k : ℕ) (u v d r : X) → k < length a → k < length b
    → f r ≡ j (f (get_or a k u)) (f (get_or b k v)) → f r ≡ j (f (get_or a k d)) (f (get_or b k d))
read_two f j a b k u v d r ia ib h = rw (get_or_default a k d u ia, get_or_default b k d v ib) h

-- what was read at a place is what stands there, by any default
pub read_one : {X Y : Type 0} (f : X → Y) (g : Y → Y) (a : List X) (k : ℕ) (u d r : X) → k < length a
    → f r ≡ g (f (get_or a k u)) → f r ≡ g (f (get_or a k d))
read_one f g a k u d r ia h = rw (get_or_default a k d u ia) h

pub read_both : {X Y : Type 0} (f : X → Y) (j : Y → Y → Y) (a b : List X) (k : ℕ) (u v d : X) → k < length a → k < length b
    → j (f (get_or a k u)) (f (get_or b k v)) ≡ f (get_or a k u) → f (get_or a k d) ≡ j (f (get_or a k d)) (f (get_or b k d))
read_both f j a b k u v d ia ib h = rw (get_or_default a k d u ia, get_or_default b k d v ib) (sym h)

pub one_more_same : {X Y : Type 0} (f : X → Y) (right : ℕ → Y) (a : List X) (n : ℕ) (d : X)
    → ((k : ℕ) → k < n → f (get_or a k d) ≡ right k) → f (get_or a n d) ≡ right n
    → (k : ℕ) → k < n + 1 → f (get_or a k d) ≡ right k
one_more_same f right a n d before here k small =
    elim (cases_lt k n) [
      | inl lt ↦ before k lt
      | inr ge ↦ let e : k ≡ n = omega arith in rw e here
    ]

pub zip_not_same : {X Y : Type 0} (f : X → Y) (j : Y → Y → Y) (a b : List X) (d : X) → length b ≡ length a
    → (k : ℕ) (u v : X) → k < length a → (j (f (get_or a k u)) (f (get_or b k v)) ≡ f (get_or a k u) → ⊥)
    → zip_with j (map f a) (map f b) ≡ map f a → ⊥
zip_not_same f j a b d lb k u v small not e =
    let ib : k < length b = omega arith in
    let here : j (f (get_or a k d)) (f (get_or b k d)) ≡ f (get_or a k d) = zip_same_at f j a b d lb e k small in
    not (rw (get_or_default a k u d small, get_or_default b k v d ib) here)

-- a value is written to an array as what contracts see of it is to their list
pub mapped_set : {X Y : Type 0} (f : X → Y) (xs : List X) (i : ℕ) (x : X) → map f (set xs i x) ≡ set (map f xs) i (f x)
mapped_set f xs i x = map-set f xs i x

-- one that holds at each place what the place and another give there
pub places_filled : {X Y : Type 0} (f : X → Y) (h : ℕ → Y → Y) (a out : List X) (g : ℕ) (d : X) → length out ≡ length a
    → ((k : ℕ) → k < length a → f (get_or out k d) ≡ h (g + k) (f (get_or a k d)))
    → map f out ≡ map_places h g (map f a)
unfolding map_places
places_filled f h [] [] g d lo e = refl
places_filled f h [] (o ∷ os) g d lo e = absurd (let bad : suc (length os) ≡ 0 = lo in cc)
places_filled f h (x ∷ xs) [] g d lo e = absurd (let bad : 0 ≡ suc (length xs) = lo in cc)
places_filled f h (x ∷ xs) (o ∷ os) g d lo e =
    let place : g + 0 ≡ g = omega arith in
    let here : f o ≡ h g (f x) = rw place at (e 0 (omega arith)) in
    let los : length os ≡ length xs = omega arith in
    let rest : map f os ≡ map_places h (g + 1) (map f xs) =
    places_filled f h xs os (g + 1) d los (λ k small.
    let next : g + suc k ≡ g + 1 + k = omega arith in
    rw next at (e (suc k) (omega arith))) in
    rw (here, rest) refl

-- an array to which another is joined, place by place: those below n are joined, the others as they were
pub record Joined {X Y : Type 0} (f : X → Y) (j : Y → Y → Y) (a b out : List X) (n : ℕ) (d : X) : Type 0 where
  pub long : length out ≡ length a
  pub below : (k : ℕ) → k < n → f (get_or out k d) ≡ j (f (get_or a k d)) (f (get_or b k d))
  pub above : (k : ℕ) → n ≤ k → get_or out k d ≡ get_or a k d

pub joined_none : {X Y : Type 0} (f : X → Y) (j : Y → Y → Y) (a b : List X) (d : X) → Joined f j a b a 0 d
joined_none f j a b d = record { long = refl; below = λ k small. absurd (omega (arith, small)); above = λ k least. refl }

-- one place more is joined
pub joined_more : {X Y : Type 0} (f : X → Y) (j : Y → Y → Y) (a b out : List X) (n : ℕ) (u v r d : X) → n < length a → n < length b
    → Joined f j a b out n d → f r ≡ j (f (get_or out n u)) (f (get_or b n v)) → Joined f j a b (set out n r) (n + 1) d
joined_more f j a b out n u v r d ia ib h e =
    let inside : n < length out = (let long = h.long in omega (arith, ia, long)) in
    let was : get_or out n d ≡ get_or a n d = h.above n (omega arith) in
    let read : f r ≡ j (f (get_or out n d)) (f (get_or b n d)) = read_two f j out b n u v d r inside ib e in
    record {
      long = length-set out n r ∙ h.long;
      below = one_more f (λ k. j (f (get_or a k d)) (f (get_or b k d))) out n r d inside h.below (rw was at read);
      above = λ k least. let other : k ≢ n = (λ same. omega (arith, least, same)) in rw (get_or-set_other out n k r d other) (h.above k (omega (arith, least)));
    }

-- one place that joining leaves as it is
pub joined_same : {X Y : Type 0} (f : X → Y) (j : Y → Y → Y) (a b out : List X) (n : ℕ) (u v d : X) → n < length a → n < length b
    → Joined f j a b out n d → j (f (get_or out n u)) (f (get_or b n v)) ≡ f (get_or out n u) → Joined f j a b out (n + 1) d
joined_same f j a b out n u v d ia ib h e =
    let inside : n < length out = (let long = h.long in omega (arith, ia, long)) in
    let was : get_or out n d ≡ get_or a n d = h.above n (omega arith) in
    let here : f (get_or out n d) ≡ j (f (get_or out n d)) (f (get_or b n d)) = read_both f j out b n u v d inside ib e in
    let there : f (get_or out n d) ≡ j (f (get_or a n d)) (f (get_or b n d)) = here ∙ ap (λ z. j (f z) (f (get_or b n d))) was in
    record {
      long = h.long;
      below = one_more_same f (λ k. j (f (get_or a k d)) (f (get_or b k d))) out n d h.below there;
      above = λ k least. h.above k (omega (arith, least));
    }

pub joined_all : {X Y : Type 0} (f : X → Y) (j : Y → Y → Y) (a b out : List X) (n : ℕ) (d : X) → length b ≡ length a → length a ≤ n
    → Joined f j a b out n d → map f out ≡ zip_with j (map f a) (map f b)
joined_all f j a b out n d lb la h = zip_filled f j a b out d lb h.long (λ k small. h.below k (omega (arith, small, la)))
