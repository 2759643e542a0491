-- How often the calls of `again` may still answer 1.
use Rattle.std.proofs.Common.{ℕ, zero, suc, ◌≡◌, ◌+◌, ◌-◌, ◌<◌, ◌≤◌, List, length, map, slice_index, slice_set, refl, sym, ◌∙◌, ap, inl, inr, arith, add-one}
use Rattle.std.specs.List.{range_with_len, sum}
use Rattle.std.proofs.lemmas.Bool.{cases_lt}
use Rattle.std.proofs.lemmas.List.{get_or-set_same, get_or-set_other}
use Rattle.bpf_shape.proofs.Ranges.{sum_more}

-- what is left of the limits k of the first n slots, where the counts are ts
abbrev pub left_of : (ℕ → ℕ) → List ℕ → ℕ → ℕ
left_of k ts zero = 0
left_of k ts (suc n) = left_of k ts n + (k n - slice_index ts n)

-- no more than the limits
pub left_at_most : (k : ℕ → ℕ) (ts : List ℕ) (n : ℕ) → left_of k ts n ≤ sum (map k (range_with_len 0 n))
left_at_most k ts zero = omega arith
left_at_most k ts (suc n) =
    let more : sum (map k (range_with_len 0 (suc n))) ≡ sum (map k (range_with_len 0 n)) + k n =
    ap (λ (m : ℕ). sum (map k (range_with_len 0 m))) (sym (add-one n)) ∙ sum_more k n in
    let before = left_at_most k ts n in
    omega (arith, more, before)

-- a count of a later slot changes nothing
later : (k : ℕ → ℕ) (ts : List ℕ) (p v n : ℕ) → n ≤ p → left_of k (slice_set ts p v) n ≡ left_of k ts n
later k ts p v zero past = refl
later k ts p v (suc n) past =
    let same : slice_index (slice_set ts p v) n ≡ slice_index ts n = get_or-set_other ts p n v 0 (λ (e : n ≡ p). absurd (omega (arith, e, past))) in
    let before = later k ts p v n (omega (arith, past)) in
    rw (same, before) refl

-- one turn is one less
pub one_less : (k : ℕ → ℕ) (ts : List ℕ) (p n : ℕ) → p < n → p < length ts → slice_index ts p < k p
    → left_of k ts n ≡ suc (left_of k (slice_set ts p (slice_index ts p + 1)) n)
one_less k ts p zero inside long less = absurd (omega (arith, inside))
one_less k ts p (suc n) inside long less =
    let v = slice_index ts p + 1 in
    elim (cases_lt p n) [
      | inl below ↦
          let same : slice_index (slice_set ts p v) n ≡ slice_index ts n = get_or-set_other ts p n v 0 (λ (e : n ≡ p). absurd (omega (arith, e, below))) in
          let before = one_less k ts p n below long less in
          omega (arith, same, before)
      | inr not_below ↦
          let e : p ≡ n = omega (arith, inside, not_below) in
          let here : slice_index (slice_set ts p v) n ≡ v = ap (slice_index (slice_set ts p v)) (sym e) ∙ get_or-set_same ts p v 0 long in
          let old : slice_index ts n ≡ slice_index ts p = ap (slice_index ts) (sym e) in
          let limit : k n ≡ k p = ap k (sym e) in
          let before = later k ts p v n (omega (arith, e)) in
          omega (arith, here, old, limit, before, less)
    ]
