-- Windows counted at the first place that they hold.
use Rattle.std.proofs.Common.{ℕ, zero, suc, ◌≡◌, ◌≢◌, ◌==◌, ◌+◌, ◌<◌, ◌≤◌, nat_lt, true, false, not, List, [], ◌∷◌, ◌++◌, length, filter, slice_index_or, slice_set, refl, sym, ◌∙◌, ap, arith, inl, inr, length-append}
use Rattle.std.specs.Prelude.{max}
use Rattle.std.proofs.lemmas.List.{ext_get_or, get_or-set_other, length-set}
use Rattle.std.proofs.lemmas.List.Filters.{length-filter_both}
use Rattle.std.proofs.lemmas.Grind.{get_or-set_at}
use Rattle.std.proofs.lemmas.List.Elements.{filter-append}
use Rattle.std.proofs.lemmas.List.FromFn.{length-map-range_with_len, get_or-map-range_with_len}
use Rattle.std.proofs.lemmas.Bool.Decides.{nat_tests, eqb_tells}
use Rattle.losses.specs.declared.flushes.window.Window.{Window}
use Rattle.losses.specs.declared.flushes.counted.MissingFlush.{MissingFlush}
use Rattle.losses.specs.Counted.{places_before, counted_at, greatest_start, missing_at, missing}

-- numbers of which the first r are below s, and no other
pub prefix_count : (xs : List ℕ) (r s : ℕ) → r ≤ length xs → ((k d : ℕ) → k < r → slice_index_or xs k d < s)
    → ((k d : ℕ) → r ≤ k → k < length xs → s ≤ slice_index_or xs k d) → r ≡ length (filter (λ (x : ℕ). nat_lt x s) xs)
prefix_count [] r s within before beyond = omega (arith, within)
prefix_count (x ∷ xs) zero s within before beyond =
    let rest = prefix_count xs 0 s (omega arith) (λ k d less. absurd (omega (arith, less))) (λ k d late inside. beyond (suc k) d (omega arith) (omega (arith, inside))) in
    let high : s ≤ x = beyond 0 0 (omega arith) (omega arith) in
    let test : nat_lt x s ≡ false = grind (arith, nat_tests, high) in
    rw test rest
prefix_count (x ∷ xs) (suc r) s within before beyond =
    let rest = prefix_count xs r s (omega (arith, within)) (λ k d less. before (suc k) d (omega (arith, less))) (λ k d late inside. beyond (suc k) d (omega (arith, late)) (omega (arith, inside))) in
    let low : x < s = before 0 0 (omega arith) in
    let test : nat_lt x s ≡ true = grind (arith, nat_tests, low) in
    rw test (ap suc rest)

-- the greatest start, with one window more
pub greatest-push : (ws : List Window) (w : Window) → greatest_start (ws ++ w ∷ []) ≡ max (greatest_start ws) w.start
greatest-push [] w = omega arith
greatest-push (x ∷ ws) w = let rest = greatest-push ws w in rw rest (omega arith)

-- the windows counted at a place, with one more that is counted there, or that isn't
counted-here : (ps : List ℕ) (number : ℕ) (ws : List Window) (w : Window) → places_before ps w ≡ number → counted_at ps number (ws ++ w ∷ []) ≡ counted_at ps number ws ++ w ∷ []
counted-here ps number ws w is =
    let test : (places_before ps w == number) ≡ true = grind (arith, nat_tests, is) in
    filter-append (λ (x : Window). places_before ps x == number) ws (w ∷ []) ∙ (rw test refl)

counted-other : (ps : List ℕ) (number : ℕ) (ws : List Window) (w : Window) → places_before ps w ≢ number → counted_at ps number (ws ++ w ∷ []) ≡ counted_at ps number ws
counted-other ps number ws w isnt =
    elim (eqb_tells (places_before ps w) number) [
      | inl same ↦ absurd (isnt same.1)
      | inr other ↦
          filter-append (λ (x : Window). places_before ps x == number) ws (w ∷ []) ∙ (rw other.0 (append_empty (counted_at ps number ws)))
    ]
  where
    append_empty : (xs : List Window) → xs ++ [] ≡ xs
    append_empty [] = refl
    append_empty (x ∷ xs) = ap (λ ys. x ∷ ys) (append_empty xs)

-- how many there are
pub length-missing : (ws : List Window) (ps : List ℕ) → length (missing ws ps) ≡ length ps
length-missing ws ps = length-map-range_with_len (missing_at ws ps) 0 (length ps)

pub at-missing : (ws : List Window) (ps : List ℕ) (i : ℕ) (d : MissingFlush) → i < length ps → slice_index_or (missing ws ps) i d ≡ missing_at ws ps i
at-missing ws ps i d within = get_or-map-range_with_len (missing_at ws ps) 0 (length ps) i i d within (omega arith)

-- fewer are counted than there are
pub few-counted : (ws : List Window) (ps : List ℕ) (i : ℕ) → length (counted_at ps i ws) ≤ length ws
few-counted ws ps i = let both = length-filter_both (λ (w : Window). places_before ps w == i) (λ w. not (places_before ps w == i)) (λ w. refl) ws in omega (arith, both)

-- one window more
pub missing-more : (ws : List Window) (ps : List ℕ) (w : Window) (j : ℕ) (flush : MissingFlush) → j ≡ places_before ps w → j < length ps
    → flush ≡ missing_at (ws ++ w ∷ []) ps j → slice_set (missing ws ps) j flush ≡ missing (ws ++ w ∷ []) ps
missing-more ws ps w j flush is within so =
    let d : MissingFlush = flush in
    let long = length-missing ws ps in
    let after = length-missing (ws ++ w ∷ []) ps in
    let size = length-set (missing ws ps) j flush in
    ext_get_or d (slice_set (missing ws ps) j flush) (missing (ws ++ w ∷ []) ps) (size ∙ long ∙ sym after)
    (λ i inside.
    let lower : i < length ps = omega (arith, inside, size, long) in
    elim (eqb_tells i j) [
      | inl same ↦
          get_or-set_at (missing ws ps) j i flush d same.1 (omega (arith, within, long)) ∙ so ∙ ap (missing_at (ws ++ w ∷ []) ps) (sym same.1)
          ∙ sym (at-missing (ws ++ w ∷ []) ps i d lower)
      | inr other ↦
          let still = counted-other ps i ws w (λ here. other.1 (sym here ∙ sym is)) in
          get_or-set_other (missing ws ps) j i flush d other.1 ∙ at-missing ws ps i d lower
          ∙ ap (λ (xs : List Window). record { from = greatest_start xs; at = slice_index_or ps i 0; failing = length xs }) (sym still)
          ∙ sym (at-missing (ws ++ w ∷ []) ps i d lower)
    ])

-- what a flush becomes by the window
pub flush-more : (ws : List Window) (ps : List ℕ) (w : Window) (j : ℕ) → j ≡ places_before ps w
    → record { from = max (greatest_start (counted_at ps j ws)) w.start; at = slice_index_or ps j 0; failing = length (counted_at ps j ws) + 1 } ≡ missing_at (ws ++ w ∷ []) ps j
flush-more ws ps w j is =
    let more = counted-here ps j ws w (sym is) in
    let from : max (greatest_start (counted_at ps j ws)) w.start ≡ greatest_start (counted_at ps j (ws ++ w ∷ [])) = sym (ap greatest_start more ∙ greatest-push (counted_at ps j ws) w) in
    let failing : length (counted_at ps j ws) + 1 ≡ length (counted_at ps j (ws ++ w ∷ [])) = sym (ap (λ (xs : List Window). length xs) more ∙ length-append (counted_at ps j ws) (w ∷ [])) in
    rw (from, failing) refl
