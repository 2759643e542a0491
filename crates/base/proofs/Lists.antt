-- Elements of a list by their place, ranges of numbers, and numbers in a list of bytes.
use Rattle.std.proofs.Common.{ℕ, zero, suc, ◌≡◌, ◌+◌, ◌-◌, ◌^◌, ◌<◌, ◌≤◌, ◌⊎◌, Bool, true, false, if◌then◌else◌, List, [], ◌∷◌, ◌++◌, length, length-append, map, filter, take, drop, Some, None, slice_get, refl, sym, ◌∙◌, ap, inl, inr, arith, add-one}
use Rattle.std.specs.List.{count_by, range_with_len}
use Rattle.std.proofs.Math.Seq.{drop-append_seam}
use Rattle.std.proofs.lemmas.Bool.{cases_lt}
use Rattle.std.proofs.lemmas.List.{length-replicate}
use Rattle.std.proofs.lemmas.List.Elements.{filter-append}
use Rattle.std.proofs.lemmas.List.Sums.{length-filter}
use Rattle.byteorder.specs.Numbers.{little_number-reads_back, length-bytes_low_first}
use Rattle.base.specs.Numbers.{number_at, number_bytes, zeros}

-- an element of the first list keeps its place
pub slice_get-append_left : {X : Type 0} (xs ys : List X) (i : ℕ) → i < length xs → slice_get (xs ++ ys) i ≡ slice_get xs i
slice_get-append_left [] ys i h = absurd (omega (arith, h))
slice_get-append_left (x ∷ xs) ys zero h = refl
slice_get-append_left (x ∷ xs) ys (suc i) h = slice_get-append_left xs ys i (omega (arith, h))

-- an element of the second list stands after the first
pub slice_get-append_right : {X : Type 0} (xs ys : List X) (i : ℕ) → slice_get (xs ++ ys) (length xs + i) ≡ slice_get ys i
slice_get-append_right [] ys i = let e : 0 + i ≡ i = omega arith in ap (slice_get ys) e
slice_get-append_right (x ∷ xs) ys i =
    let e : suc (length xs) + i ≡ suc (length xs + i) = omega arith in
    ap (slice_get (x ∷ (xs ++ ys))) e ∙ slice_get-append_right xs ys i

-- what was pushed stands at the end
pub slice_get-push : {X : Type 0} (xs : List X) (y : X) → slice_get (xs ++ y ∷ []) (length xs) ≡ Some y
slice_get-push [] y = refl
slice_get-push (x ∷ xs) y = slice_get-push xs y

-- an element after a push was there, or is what was pushed
pub slice_get_of_push : {X : Type 0} (xs : List X) (y : X) (i : ℕ) (x : X) → slice_get (xs ++ y ∷ []) i ≡ Some x
    → (slice_get xs i ≡ Some x) ⊎ ((i ≡ length xs) × (x ≡ y))
slice_get_of_push [] y zero x h = inr (refl, let back : Some x ≡ Some y = sym h in cc)
slice_get_of_push [] y (suc i) x h = absurd (let bad : None ≡ Some x = h in cc)
slice_get_of_push (z ∷ xs) y zero x h = inl h
slice_get_of_push (z ∷ xs) y (suc i) x h =
    elim (slice_get_of_push xs y i x h) [ inl was ↦ inl was | inr last ↦ inr (ap suc last.0, last.1) ]

-- two lists with the same elements at all places are the same
pub same_by_place : {X : Type 0} (xs ys : List X) → ((i : ℕ) → slice_get xs i ≡ slice_get ys i) → xs ≡ ys
same_by_place [] [] h = refl
same_by_place [] (y ∷ ys) h = absurd (let bad : None ≡ Some y = h 0 in cc)
same_by_place (x ∷ xs) [] h = absurd (let bad : Some x ≡ None = h 0 in cc)
same_by_place (x ∷ xs) (y ∷ ys) h =
    let first : Some x ≡ Some y = h 0 in
    let rest : xs ≡ ys = same_by_place xs ys (λ i. h (suc i)) in
    cc

-- a list is what stands before an element, the element, and what stands after it
pub split_at_place : {X : Type 0} (xs : List X) (i : ℕ) (x : X) → slice_get xs i ≡ Some x → xs ≡ take i xs ++ x ∷ drop (suc i) xs
split_at_place [] i x h = absurd (let bad : None ≡ Some x = h in cc)
split_at_place (y ∷ ys) zero x h = let here : Some y ≡ Some x = h in let same : y ≡ x = cc in ap (λ z. z ∷ ys) same
split_at_place (y ∷ ys) (suc i) x h = ap (λ zs. y ∷ zs) (split_at_place ys i x h)

-- the number whose bytes stand in a list is read back at their place
pub number_at-number_bytes : (n x i : ℕ) (front rest : List ℕ) → x < 256 ^ n → length front ≡ i
    → number_at n i (front ++ (number_bytes n x ++ rest)) ≡ x
unfolding number_at number_bytes
number_at-number_bytes n x i front rest fits at =
    rw (← at, drop-append_seam front (number_bytes n x ++ rest)) (little_number-reads_back n x rest fits)

-- a number has as many bytes as were asked for
pub length-number_bytes : (n x : ℕ) → length (number_bytes n x) ≡ n
unfolding number_bytes
length-number_bytes n x = length-bytes_low_first 0 n x

-- there are as many zeros as were asked for
pub length-zeros : (n : ℕ) → length (zeros n) ≡ n
unfolding zeros
length-zeros n = length-replicate {A = ℕ} n 0

-- one more number of a range
pub range_with_len-push : (a n : ℕ) → range_with_len a (suc n) ≡ range_with_len a n ++ (a + n) ∷ []
range_with_len-push a zero = let e : a + 0 ≡ a = omega arith in rw e refl
range_with_len-push a (suc n) =
    let e : a + 1 + n ≡ a + suc n = omega arith in
    let rest : range_with_len (a + 1) (suc n) ≡ range_with_len (a + 1) n ++ (a + 1 + n) ∷ [] = range_with_len-push (a + 1) n in
    ap (λ (xs : List ℕ). a ∷ xs) (rest ∙ ap (λ (x : ℕ). range_with_len (a + 1) n ++ x ∷ []) e)

-- the same, as a loop counts
pub range_with_len-more : (a n : ℕ) → range_with_len a (n + 1) ≡ range_with_len a n ++ (a + n) ∷ []
range_with_len-more a n = ap (range_with_len a) (add-one n) ∙ range_with_len-push a n

-- a range, and the range after it
pub range_with_len-append : (a n m : ℕ) → range_with_len a (n + m) ≡ range_with_len a n ++ range_with_len (a + n) m
range_with_len-append a zero m = let e : a + 0 ≡ a = omega arith in let f : 0 + m ≡ m = omega arith in rw (e, f) refl
range_with_len-append a (suc n) m =
    let e : suc n + m ≡ suc (n + m) = omega arith in
    let f : a + 1 + n ≡ a + suc n = omega arith in
    let rest : range_with_len (a + 1) (n + m) ≡ range_with_len (a + 1) n ++ range_with_len (a + 1 + n) m = range_with_len-append (a + 1) n m in
    rw e (ap (λ (xs : List ℕ). a ∷ xs) (rest ∙ ap (λ (x : ℕ). range_with_len (a + 1) n ++ range_with_len x m) f))

-- an element after the first n
pub slice_get-drop : {X : Type 0} (n : ℕ) (xs : List X) (i : ℕ) → slice_get (drop n xs) i ≡ slice_get xs (n + i)
slice_get-drop zero xs i = let e : i ≡ 0 + i = omega arith in ap (slice_get xs) e
slice_get-drop (suc n) [] i = refl
slice_get-drop (suc n) (x ∷ xs) i =
    let e : suc n + i ≡ suc (n + i) = omega arith in
    slice_get-drop n xs i ∙ sym (ap (slice_get (x ∷ xs)) e)

-- one element more from the front
pub take-suc_place : {X : Type 0} (xs : List X) (k : ℕ) (x : X) → slice_get xs k ≡ Some x → take (suc k) xs ≡ take k xs ++ x ∷ []
take-suc_place [] k x h = absurd (let bad : None ≡ Some x = h in cc)
take-suc_place (y ∷ ys) zero x h = let here : Some y ≡ Some x = h in let same : y ≡ x = cc in ap (λ z. z ∷ []) same
take-suc_place (y ∷ ys) (suc k) x h = ap (λ zs. y ∷ zs) (take-suc_place ys k x h)

-- a test that tells alike filters alike
pub filter_alike : {X : Type 0} (p q : X → Bool) (xs : List X) → ((x : X) → p x ≡ q x) → filter p xs ≡ filter q xs
filter_alike {X = X} p q xs h = let same : p ≡ q = λ i x. h x i in ap (λ (r : X → Bool). filter r xs) same

-- a test that each image passes, or none
pub filter-map_all : {X Y : Type 0} (p : Y → Bool) (f : X → Y) (xs : List X) → ((x : X) → p (f x) ≡ true) → filter p (map f xs) ≡ map f xs
filter-map_all p f [] h = refl
filter-map_all p f (x ∷ xs) h = rw (h x) (ap (λ ys. f x ∷ ys) (filter-map_all p f xs h))

pub filter-map_none : {X Y : Type 0} (p : Y → Bool) (f : X → Y) (xs : List X) → ((x : X) → p (f x) ≡ false) → filter p (map f xs) ≡ []
filter-map_none p f [] h = refl
filter-map_none p f (x ∷ xs) h = rw (h x) (filter-map_none p f xs h)

-- a test that tells each image alike
pub filter-map_alike : {X Y : Type 0} (p q : Y → Bool) (f : X → Y) (xs : List X) → ((x : X) → p (f x) ≡ q (f x)) → filter p (map f xs) ≡ filter q (map f xs)
filter-map_alike p q f [] h = refl
filter-map_alike p q f (x ∷ xs) h =
    let rest = filter-map_alike p q f xs h in
    rw (h x, rest) refl

-- a test that no element passes
pub filter_none : {X : Type 0} (p : X → Bool) (xs : List X) → ((x : X) → p x ≡ false) → filter p xs ≡ []
filter_none p [] h = refl
filter_none p (x ∷ xs) h = rw (h x) (filter_none p xs h)

-- one element more to count
pub count_by-push : {X : Type 0} (p : X → Bool) (xs : List X) (y : X) → count_by p (xs ++ y ∷ []) ≡ count_by p xs + (if p y then 1 else 0)
count_by-push p xs y =
    let one : length (filter p (y ∷ [])) ≡ (if p y then 1 else 0) =
    elim (p y) as (λ b. length (if b then (y ∷ []) else []) ≡ (if b then 1 else 0)) [ true ↦ refl | false ↦ refl ] in
    let whole = length-filter p (xs ++ y ∷ []) in
    let first = length-filter p xs in
    let parts = ap length (filter-append p xs (y ∷ [])) in
    let sum = length-append (filter p xs) (filter p (y ∷ [])) in
    omega (arith, one, whole, first, parts, sum)

-- an element of two lists in a row is one of the first or of the second
pub slice_get_of_append : {X : Type 0} (xs ys : List X) (i : ℕ) (x : X) → slice_get (xs ++ ys) i ≡ Some x
    → ((i < length xs) × (slice_get xs i ≡ Some x)) ⊎ ((length xs ≤ i) × (slice_get ys (i - length xs) ≡ Some x))
slice_get_of_append xs ys i x h =
    elim (cases_lt i (length xs)) [
      | inl less ↦ inl (less, sym (slice_get-append_left xs ys i less) ∙ h)
      | inr more ↦
          let at : length xs + (i - length xs) ≡ i = omega (arith, more) in
          inr (more, sym (slice_get-append_right xs ys (i - length xs)) ∙ ap (slice_get (xs ++ ys)) at ∙ h)
    ]
