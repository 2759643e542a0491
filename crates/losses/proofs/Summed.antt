-- Each window is counted at one of the flushes.
use Rattle.std.proofs.Common.{ℕ, zero, suc, ◌≡◌, ◌+◌, ◌<◌, ◌≤◌, nat_lt, Bool, true, false, not, List, [], ◌∷◌, ◌++◌, length, map, filter, slice_get, Some, None, refl, sym, ◌∙◌, ap, arith, inl, inr}
use Rattle.std.specs.List.{range_with_len, sum_by}
use Rattle.std.proofs.lemmas.Bool.Decides.{leb_tells, eqb_tells, nat_tests}
use Rattle.std.proofs.lemmas.List.Sums.{sum_by_push}
use Rattle.std.proofs.lemmas.List.{map_push}
use Rattle.std.proofs.lemmas.List.Filters.{length-filter_both}
use Rattle.base.proofs.Lists.{range_with_len-more}
use Rattle.losses.specs.declared.flushes.window.Window.{Window}
use Rattle.losses.specs.declared.flushes.counted.MissingFlush.{MissingFlush}
use Rattle.losses.specs.Counted.{places_before, counted_at, missing_at}
use Rattle.losses.specs.WindowLaws.{EachIsCountedOnce}

-- the windows with fewer than n places before them
abbrev few_before : List ℕ → ℕ → List Window → List Window
few_before ps n ws = filter (λ (w : Window). nat_lt (places_before ps w) n) ws

few_none : (ps : List ℕ) (ws : List Window) → length (few_before ps 0 ws) ≡ 0
few_none ps [] = refl
few_none ps (w ∷ ws) =
    let test : nat_lt (places_before ps w) 0 ≡ false = grind (arith, nat_tests) in
    rw test (few_none ps ws)

few_more : (ps : List ℕ) (n : ℕ) (ws : List Window) → length (few_before ps (n + 1) ws) ≡ length (few_before ps n ws) + length (counted_at ps n ws)
few_more ps n [] = refl
few_more ps n (w ∷ ws) =
    let rest = few_more ps n ws in
    let k : ℕ = places_before ps w in
    elim (eqb_tells k n) [
      | inl same ↦
          let now : nat_lt k (n + 1) ≡ true = let is = same.1 in grind (arith, nat_tests, is) in
          let earlier : nat_lt k n ≡ false = let is = same.1 in grind (arith, nat_tests, is) in
          rw (now, earlier, same.0) (omega (arith, rest))
      | inr other ↦ elim (leb_tells (suc k) n) [
        | inl low ↦
            let now : nat_lt k (n + 1) ≡ true = let is = low.1 in grind (arith, nat_tests, is) in
            rw (now, low.0, other.0) (omega (arith, rest))
        | inr high ↦
            let beyond : n < k = let is = high.1 in let isnt = other.1 in grind (arith, nat_tests, is, isnt) in
            let now : nat_lt k (n + 1) ≡ false = grind (arith, nat_tests, beyond) in
            rw (now, high.0, other.0) rest
      ]
    ]

few_all : (ps : List ℕ) (n : ℕ) (ws : List Window) → ((i : ℕ) (w : Window) → slice_get ws i ≡ Some w → places_before ps w < n) → length (few_before ps n ws) ≡ length ws
few_all ps n [] all = refl
few_all ps n (w ∷ ws) all =
    let own = all 0 w refl in
    let test : nat_lt (places_before ps w) n ≡ true = grind (arith, nat_tests, own) in
    rw test (ap suc (few_all ps n ws (λ i x there. all (suc i) x there)))

-- the sum over the first n of the flushes
summed : (ws : List Window) (ps : List ℕ) (n : ℕ) → sum_by (λ (m : MissingFlush). m.failing) (map (missing_at ws ps) (range_with_len 0 n)) ≡ length (few_before ps n ws)
summed ws ps zero = sym (few_none ps ws)
summed ws ps (suc n) =
    let rest = summed ws ps n in
    let more = few_more ps n ws in
    let next : 0 + n ≡ n = omega arith in
    let one : suc n ≡ n + 1 = omega arith in
    let list : map (missing_at ws ps) (range_with_len 0 (suc n)) ≡ map (missing_at ws ps) (range_with_len 0 n) ++ missing_at ws ps n ∷ [] =
    ap (λ k. map (missing_at ws ps) (range_with_len 0 k)) one ∙ ap (map (missing_at ws ps)) (range_with_len-more 0 n) ∙ map_push (missing_at ws ps) (range_with_len 0 n) (0 + n)
    ∙ ap (λ (k : ℕ). map (missing_at ws ps) (range_with_len 0 n) ++ missing_at ws ps k ∷ []) next in
    let sum = ap (sum_by (λ (m : MissingFlush). m.failing)) list ∙ sum_by_push (λ (m : MissingFlush). m.failing) (map (missing_at ws ps) (range_with_len 0 n)) (missing_at ws ps n) in
    let goal = ap (λ k. length (few_before ps k ws)) one in
    omega (arith, sum, rest, more, goal)

shorter : (p : ℕ → Bool) (xs : List ℕ) → length (filter p xs) ≤ length xs
shorter p xs = let both = length-filter_both p (λ x. not (p x)) (λ x. refl) xs in omega (arith, both)

-- a window holds one of the places, so fewer stand before it than there are
before_all : (ps : List ℕ) (w : Window) (i p : ℕ) → slice_get ps i ≡ Some p → w.start ≤ p → places_before ps w < length ps
before_all [] w i p there from = absurd (let bad : None ≡ Some p = there in cc)
before_all (x ∷ ps) w zero p there from =
    let same : x ≡ p = cc in
    let test : nat_lt x w.start ≡ false = grind (arith, nat_tests, same, from) in
    let rest = shorter (λ (q : ℕ). nat_lt q w.start) ps in
    rw test (omega (arith, rest))
before_all (x ∷ ps) w (suc i) p there from =
    let rest = before_all ps w i p there from in
    elim (leb_tells (suc x) w.start) [
      | inl low ↦ rw low.0 (omega (arith, rest))
      | inr high ↦ rw high.0 (omega (arith, rest))
    ]

pub each_is_counted_once : EachIsCountedOnce
each_is_counted_once n ws ms are so =
    let ps : List ℕ = so.places in
    let all = few_all ps (length ps) ws (λ i w there. let one = so.picked.all i w there in before_all ps w one.number one.place one.there one.holds.from) in
    ap (sum_by (λ (m : MissingFlush). m.failing)) so.listed ∙ summed ws ps (length ps) ∙ all
