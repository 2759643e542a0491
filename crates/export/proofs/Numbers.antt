-- Rising lists of the numbers below another that pass a test, and one number more.
use Rattle.std.proofs.Common.{ℕ, zero, suc, ◌≡◌, ◌≢◌, ◌+◌, ◌-◌, ◌<◌, ◌≤◌, ◌==◌, ◌||◌, Bool, true, false, cond, List, [], ◌∷◌, ◌++◌, length, filter, take, drop, slice_get, slice_index_or, refl, sym, subst, ◌∙◌, ap, inl, inr, arith}
use Rattle.std.specs.List.{All, range_with_len}
use Rattle.std.specs.List.Sorted.{IsNonDecreasingBy}
use Rattle.std.specs.Option.{option_map_or}
use Rattle.std.proofs.Math.Seq.{take-append_seam, drop-append_seam}
use Rattle.std.proofs.lemmas.Bool.{cases_lt, eq-eqb, ne_eqb}
use Rattle.std.proofs.lemmas.List.{length-append, get_or_append_left, get_or-append_right}
use Rattle.std.proofs.lemmas.List.Elements.{filter-append}
use Rattle.base.proofs.Lists.{range_with_len-append}

-- the numbers below another that pass
abbrev pub those : (ℕ → Bool) → ℕ → List ℕ
those p n = filter p (range_with_len 0 n)

-- tests that agree on a range
pub those_alike : (p q : ℕ → Bool) (a k : ℕ) → ((m : ℕ) → a ≤ m → m < a + k → p m ≡ q m) → filter p (range_with_len a k) ≡ filter q (range_with_len a k)
those_alike p q a zero same = refl
those_alike p q a (suc k) same =
    ap (λ b. cond b (a ∷ filter p (range_with_len (a + 1) k)) (filter p (range_with_len (a + 1) k))) (same a (omega arith) (omega arith))
    ∙ ap (λ xs. cond (q a) (a ∷ xs) xs) (those_alike p q (a + 1) k (λ m low high. same m (omega (arith, low)) (omega (arith, high))))

-- what holds of each of a range
pub kept_of : (P : ℕ → Type 0) (p : ℕ → Bool) (a k : ℕ) → ((m : ℕ) → a ≤ m → m < a + k → P m) → All P (filter p (range_with_len a k))
kept_of P p a zero each = λ i d lt. absurd (omega (arith, lt))
kept_of P p a (suc k) each =
    let rest : All P (filter p (range_with_len (a + 1) k)) = kept_of P p (a + 1) k (λ m low high. each m (omega (arith, low)) (omega (arith, high))) in
    let by : (b : Bool) → All P (cond b (a ∷ filter p (range_with_len (a + 1) k)) (filter p (range_with_len (a + 1) k))) =
    λ b. elim b as (λ c. All P (cond c (a ∷ filter p (range_with_len (a + 1) k)) (filter p (range_with_len (a + 1) k)))) [
      | true ↦ first P a (filter p (range_with_len (a + 1) k)) (each a (omega arith) (omega arith)) rest
      | false ↦ rest
    ] in
    by (p a)
  where
    first : (P : ℕ → Type 0) (x : ℕ) (xs : List ℕ) → P x → All P xs → All P (x ∷ xs)
    first P x xs own rest = λ i d lt. at i d lt
      where
        at : (i d : ℕ) → i < length (x ∷ xs) → P (slice_index_or (x ∷ xs) i d)
        at zero d lt = own
        at (suc i) d lt = rest i d (omega (arith, lt))

-- they rise
pub those_rise : (p : ℕ → Bool) (a k : ℕ) → IsNonDecreasingBy (λ (n : ℕ). n) (filter p (range_with_len a k))
those_rise p a zero = λ i j d le lt. absurd (omega (arith, lt))
those_rise p a (suc k) =
    let rest : List ℕ = filter p (range_with_len (a + 1) k) in
    let by : (b : Bool) → IsNonDecreasingBy (λ (n : ℕ). n) (cond b (a ∷ rest) rest) = λ b. elim b as (λ c. IsNonDecreasingBy (λ (n : ℕ). n) (cond c (a ∷ rest) rest)) [
      | true ↦ λ i j d le lt. rises a rest (kept_of (λ m. a ≤ m) p (a + 1) k (λ m low high. omega (arith, low))) (those_rise p (a + 1) k) i j d le lt
      | false ↦ those_rise p (a + 1) k
    ] in
    by (p a)
  where
    rises : (a : ℕ) (xs : List ℕ) → All (λ m. a ≤ m) xs → IsNonDecreasingBy (λ (n : ℕ). n) xs → IsNonDecreasingBy (λ (n : ℕ). n) (a ∷ xs)
    rises a xs above sorted = λ i j d le lt. at i j d le lt
      where
        at : (i j d : ℕ) → i ≤ j → j < length (a ∷ xs) → slice_index_or (a ∷ xs) i d ≤ slice_index_or (a ∷ xs) j d
        at zero zero d le lt = omega arith
        at zero (suc j) d le lt = above j d (omega (arith, lt))
        at (suc i) zero d le lt = absurd (omega (arith, le))
        at (suc i) (suc j) d le lt = sorted i j d (omega (arith, le)) (omega (arith, lt))

-- the place of a number in a rising list
place_is : (xs ys : List ℕ) (n place : ℕ) → All (λ m. m < n) xs → All (λ m. n ≤ m) ys → place ≤ length (xs ++ ys)
    → ((k d : ℕ) → k < place → slice_index_or (xs ++ ys) k d < n)
    → ((k d : ℕ) → place ≤ k → k < length (xs ++ ys) → n ≤ slice_index_or (xs ++ ys) k d)
    → place ≡ length xs
place_is xs ys n place below above bound before beyond =
    let long = length-append xs ys in
    elim (cases_lt place (length xs)) [
      | inl less ↦
          let high = beyond place 0 (omega arith) (omega (arith, less, long)) in
          let low = below place 0 less in
          let same = get_or_append_left xs ys 0 place less in
          absurd (omega (arith, high, low, same))
      | inr past ↦ elim (cases_lt (length xs) place) [
        | inl more ↦
            let low = before (length xs) 0 more in
            let high = above (length xs - length xs) 0 (omega (arith, more, bound, long)) in
            let reach : length xs ≤ length xs = omega arith in
            let same = get_or-append_right xs ys (length xs) (length xs) 0 refl reach in
            absurd (omega (arith, high, low, same))
        | inr most ↦ omega (arith, past, most)
      ]
    ]

-- whether it is there
stands_at : (xs ys : List ℕ) (n : ℕ) → option_map_or (λ (m : ℕ). m == n) (slice_get (xs ++ n ∷ ys) (length xs)) false ≡ true
stands_at [] ys n = eq-eqb n n refl
stands_at (x ∷ xs) ys n = stands_at xs ys n

lacks_at : (xs ys : List ℕ) (n : ℕ) → All (λ m. n < m) ys → option_map_or (λ (m : ℕ). m == n) (slice_get (xs ++ ys) (length xs)) false ≡ false
lacks_at [] [] n above = refl
lacks_at [] (y ∷ ys) n above = let more = above 0 y (omega arith) in ne_eqb y n (λ e. absurd (omega (arith, more, e)))
lacks_at (x ∷ xs) ys n above = lacks_at xs ys n above

-- the list after a number was put there
abbrev pub with_number : List ℕ → ℕ → ℕ → Bool → List ℕ
with_number xs place n true = xs
with_number xs place n false = take place xs ++ n ∷ drop place xs

-- a test that one number more passes
abbrev pub or_is : (ℕ → Bool) → ℕ → ℕ → Bool
or_is p n m = p m || (m == n)

or_other : (p : ℕ → Bool) (n m : ℕ) → m ≢ n → p m ≡ or_is p n m
or_other p n m other = sym (ap (λ b. p m || b) (ne_eqb m n other) ∙ none (p m))
  where
    none : (b : Bool) → (b || false) ≡ b
    none true = refl
    none false = refl

or_own : (p : ℕ → Bool) (n : ℕ) → or_is p n n ≡ true
or_own p n = ap (λ b. p n || b) (eq-eqb n n refl) ∙ own (p n)
  where
    own : (b : Bool) → (b || true) ≡ true
    own true = refl
    own false = refl

-- where it stands
abbrev Test : List ℕ → List ℕ → Bool → ℕ → ℕ → Bool → Type 0
Test front back b n place there = there ≡ option_map_or (λ (m : ℕ). m == n) (slice_get (front ++ cond b (n ∷ back) back) place) false

put_there : (front back : List ℕ) (b : Bool) (n : ℕ) (there : Bool) → All (λ m. n < m) back → Test front back b n (length front) there
    → with_number (front ++ cond b (n ∷ back) back) (length front) n there ≡ front ++ n ∷ back
put_there front back true n there above test = ap (with_number (front ++ n ∷ back) (length front) n) (test ∙ stands_at front back n)
put_there front back false n there above test =
    ap (with_number (front ++ back) (length front) n) (test ∙ lacks_at front back n above)
    ∙ ap (λ xs. xs ++ n ∷ drop (length front) (front ++ back)) (take-append_seam front back) ∙ ap (λ ys. front ++ n ∷ ys) (drop-append_seam front back)

-- a number is put into the list of those that pass
pub number_put : (p : ℕ → Bool) (count n place : ℕ) (there : Bool) (xs : List ℕ) → n < count → xs ≡ those p count → place ≤ length xs
    → ((k d : ℕ) → k < place → slice_index_or xs k d < n)
    → ((k d : ℕ) → place ≤ k → k < length xs → n ≤ slice_index_or xs k d)
    → there ≡ option_map_or (λ (m : ℕ). m == n) (slice_get xs place) false
    → with_number xs place n there ≡ those (or_is p n) count
number_put p count n place there xs lt is bound before beyond test =
    let q : ℕ = count - (n + 1) in
    let size : count ≡ n + suc q = omega (arith, lt) in
    let zero_n : 0 + n ≡ n = omega arith in
    let r : ℕ → Bool = or_is p n in
    let front : List ℕ = filter p (range_with_len 0 n) in
    let back : List ℕ = filter p (range_with_len (n + 1) q) in
    let split : (t : ℕ → Bool) → those t count ≡ filter t (range_with_len 0 n) ++ cond (t n) (n ∷ filter t (range_with_len (n + 1) q)) (filter t (range_with_len (n + 1) q)) =
    λ t. ap (λ m. filter t (range_with_len 0 m)) size ∙ ap (filter t) (range_with_len-append 0 n (suc q))
    ∙ filter-append t (range_with_len 0 n) (range_with_len (0 + n) (suc q))
    ∙ ap (λ m. filter t (range_with_len 0 n) ++ filter t (range_with_len m (suc q))) zero_n in
    let parts : xs ≡ front ++ cond (p n) (n ∷ back) back = is ∙ split p in
    let same_front : filter r (range_with_len 0 n) ≡ front =
    sym (those_alike p r 0 n (λ m low high. or_other p n m (λ e. absurd (omega (arith, high, e))))) in
    let same_back : filter r (range_with_len (n + 1) q) ≡ back =
    sym (those_alike p r (n + 1) q (λ m low high. or_other p n m (λ e. absurd (omega (arith, low, e))))) in
    let after : those r count ≡ front ++ n ∷ back =
    split r ∙ ap (λ ys. ys ++ cond (r n) (n ∷ filter r (range_with_len (n + 1) q)) (filter r (range_with_len (n + 1) q))) same_front
    ∙ ap (λ ys. front ++ cond (r n) (n ∷ ys) ys) same_back ∙ ap (λ b. front ++ cond b (n ∷ back) back) (or_own p n) in
    let below : All (λ m. m < n) front = kept_of (λ m. m < n) p 0 n (λ m low high. omega (arith, high)) in
    let above : All (λ m. n < m) back = kept_of (λ m. n < m) p (n + 1) q (λ m low high. omega (arith, low)) in
    let from : All (λ m. n ≤ m) (cond (p n) (n ∷ back) back) = kept_of (λ m. n ≤ m) p n (suc q) (λ m low high. low) in
    let P : List ℕ → Type 0 = λ ys. place ≤ length ys in
    let Q : List ℕ → Type 0 = λ ys. (k d : ℕ) → k < place → slice_index_or ys k d < n in
    let R : List ℕ → Type 0 = λ ys. (k d : ℕ) → place ≤ k → k < length ys → n ≤ slice_index_or ys k d in
    let here : place ≡ length front = place_is front (cond (p n) (n ∷ back) back) n place below from (subst P parts bound) (subst Q parts before) (subst R parts beyond) in
    ap (λ ys. with_number ys place n there) parts ∙ ap (λ m. with_number (front ++ cond (p n) (n ∷ back) back) m n there) here
    ∙ put_there front back (p n) n there above
    (test ∙ ap (λ ys. option_map_or (λ (m : ℕ). m == n) (slice_get ys place) false) parts
    ∙ ap (λ m. option_map_or (λ (k : ℕ). k == n) (slice_get (front ++ cond (p n) (n ∷ back) back) m) false) here)
    ∙ sym after
