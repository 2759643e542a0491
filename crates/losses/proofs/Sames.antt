-- Whether all images of a group end alike.
use Rattle.std.proofs.Common.{◌≢◌, ℕ, zero, suc, ◌≡◌, ◌+◌, ◌<◌, ◌==◌, ◌&&◌, ◌||◌, ◌↔◌, Bool, true, false, not, List, [], ◌∷◌, ◌++◌, length, slice_set, slice_get, Some, refl, sym, ◌∙◌, ap, subst, inl, inr, arith}
use Rattle.std.specs.List.{slice_index_or, range_with_len, list_all}
use Rattle.std.proofs.lemmas.Bool.{cases_lt}
use Rattle.std.proofs.lemmas.Bool.Decides.{eqb_tells}
use Rattle.std.proofs.lemmas.List.{length-set, get_or-set_same, get_or-set_other}
use Rattle.std.proofs.lemmas.List.Folds.{list_all-append}
use Rattle.std.proofs.lemmas.Option.{slice_get-get_or, slice_get_within}
use Rattle.std.proofs.lemmas.Slice.Eq.{bytes_eq-Decides}
use Rattle.base.proofs.Lists.{range_with_len-more}
use Rattle.losses.specs.CountedGroups.{ends_at, ends_alike, ends_as, same_at}

-- of the first i images those that stand under one end as it does
abbrev pub same_so_far : List (List ℕ) → ℕ → List ℕ → ℕ → ℕ → Bool
same_so_far outcomes begin places i k = list_all (ends_as outcomes begin places k) (range_with_len 0 i)

pub record AreSame (outcomes : List (List ℕ)) (begin : ℕ) (places : List ℕ) (same : List Bool) (i : ℕ) : Type 0 where
  pub long : length same ≡ length places
  pub each : (k : ℕ) → k < length places → slice_index_or same k true ≡ same_so_far outcomes begin places i k

-- a test of all of one more
all_more : (p : ℕ → Bool) (i : ℕ) → list_all p (range_with_len 0 (i + 1)) ≡ (list_all p (range_with_len 0 i) && p i)
all_more p i =
    let zero_first : 0 + i ≡ i = omega arith in
    ap (list_all p) (range_with_len-more 0 i ∙ ap (λ k. range_with_len 0 i ++ k ∷ []) zero_first)
    ∙ list_all-append p (range_with_len 0 i) (i ∷ [])
    ∙ ap (λ b. list_all p (range_with_len 0 i) && b) (and_true (p i))
  where
    and_true : (b : Bool) → (b && true) ≡ b
    and_true true = refl
    and_true false = refl

and_same : (a b : Bool) → b ≡ true → a ≡ (a && b)
and_same true b e = sym e
and_same false b e = refl

-- inside a list what stands there doesn't depend on the default
pub flag_at : (xs : List Bool) (i : ℕ) (d e : Bool) → i < length xs → slice_index_or xs i d ≡ slice_index_or xs i e
flag_at [] i d e lt = absurd (omega (arith, lt))
flag_at (x ∷ xs) zero d e lt = refl
flag_at (x ∷ xs) (suc i) d e lt = flag_at xs i d e (omega (arith, lt))

-- one image more, whose outcome is compared with that of its example
pub compare_more : (outcomes : List (List ℕ)) (begin : ℕ) (places : List ℕ) (same : List Bool) (i example : ℕ) (so_far alike new : Bool) → AreSame outcomes begin places same i
    → slice_index_or places i 0 ≡ example → example < length places → so_far ≡ slice_index_or same example true
    → alike ≡ ends_alike outcomes (begin + i) (begin + example) → new ≡ (so_far && alike) → AreSame outcomes begin places (slice_set same example new) (i + 1)
compare_more outcomes begin places same i example so_far alike new are is within was compared value =
    record {
      long = length-set same example new ∙ are.long;
      each = λ k lt. at k lt (example == k) refl;
    }
  where
    at : (k : ℕ) → k < length places → (b : Bool) → (example == k) ≡ b → slice_index_or (slice_set same example new) k true ≡ same_so_far outcomes begin places (i + 1) k
    at k lt true e =
        let here : example ≡ k = grind (arith, eqb_tells, e) in
        let long = are.long in
        let inside : example < length same = omega (arith, within, long) in
        let now : slice_index_or (slice_set same example new) example true ≡ new = get_or-set_same same example new true inside in
        let before : slice_index_or same example true ≡ same_so_far outcomes begin places i example = are.each example within in
        let test : (slice_index_or places i 0 == example) ≡ true = ap (λ (n : ℕ). n == example) is ∙ grind (arith, eqb_tells) in
        let own : ends_as outcomes begin places example i ≡ alike = ap (λ (b : Bool). not b || ends_alike outcomes (begin + i) (begin + example)) test ∙ sym compared in
        let all : same_so_far outcomes begin places (i + 1) example ≡ (same_so_far outcomes begin places i example && alike) =
        all_more (ends_as outcomes begin places example) i ∙ ap (λ b. same_so_far outcomes begin places i example && b) own in
        let at_example : slice_index_or (slice_set same example new) example true ≡ same_so_far outcomes begin places (i + 1) example =
        now ∙ value ∙ ap (λ b. b && alike) (was ∙ before) ∙ sym all in
        subst (λ j. slice_index_or (slice_set same example new) j true ≡ same_so_far outcomes begin places (i + 1) j) here at_example
    at k lt false e =
        let away : k ≢ example = λ back. let bad : true ≡ false = grind (arith, eqb_tells, e, back) in cc in
        let test : (slice_index_or places i 0 == k) ≡ false = ap (λ (n : ℕ). n == k) is ∙ e in
        let own : ends_as outcomes begin places k i ≡ true = ap (λ (b : Bool). not b || ends_alike outcomes (begin + i) (begin + k)) test in
        get_or-set_other same example k new true away
        ∙ are.each k lt
        ∙ and_same (same_so_far outcomes begin places i k) (ends_as outcomes begin places k i) own
        ∙ sym (all_more (ends_as outcomes begin places k) i)

-- a test that all of some numbers pass
both_true : (a b : Bool) → (a && b) ≡ true → (a ≡ true) × (b ≡ true)
both_true true b e = (refl, e)
both_true false b e = absurd (let bad : false ≡ true = e in cc)

pub each_passes : (p : ℕ → Bool) (n : ℕ) → list_all p (range_with_len 0 n) ≡ true → (i : ℕ) → i < n → p i ≡ true
each_passes p zero all i lt = absurd (omega (arith, lt))
each_passes p (suc n) all i lt =
    let one : suc n ≡ n + 1 = omega arith in
    let both = both_true (list_all p (range_with_len 0 n)) (p n) (sym (all_more p n) ∙ ap (λ k. list_all p (range_with_len 0 k)) (sym one) ∙ all) in
    elim (cases_lt i n) [
      | inl less ↦ each_passes p n both.0 i less
      | inr ge ↦ let same : i ≡ n = omega (arith, lt, ge) in ap p same ∙ both.1
    ]

pub all_pass : (p : ℕ → Bool) (n : ℕ) → ((i : ℕ) → i < n → p i ≡ true) → list_all p (range_with_len 0 n) ≡ true
all_pass p zero each = refl
all_pass p (suc n) each =
    let one : suc n ≡ n + 1 = omega arith in
    ap (λ k. list_all p (range_with_len 0 k)) one ∙ all_more p n
    ∙ ap (λ b. b && p n) (all_pass p n (λ i lt. each i (omega (arith, lt)))) ∙ each n (omega arith)

-- a group is said to end alike where all its images do
pub same_tells : (outcomes : List (List ℕ)) (begin : ℕ) (places : List ℕ) (k : ℕ)
    → (same_at outcomes begin places k ≡ true) ↔ ((i : ℕ) → slice_get places i ≡ Some k → ends_at outcomes (begin + i) ≡ ends_at outcomes (begin + k))
same_tells outcomes begin places k = (there, back)
  where
    there : same_at outcomes begin places k ≡ true → (i : ℕ) → slice_get places i ≡ Some k → ends_at outcomes (begin + i) ≡ ends_at outcomes (begin + k)
    there all i at =
        let lt = slice_get_within places i k at in
        let own = each_passes (ends_as outcomes begin places k) (length places) all i lt in
        let got : Some (slice_index_or places i 0) ≡ Some k = sym (slice_get-get_or places i 0 lt) ∙ at in
        let is : slice_index_or places i 0 ≡ k = cc in
        let test : (slice_index_or places i 0 == k) ≡ true = grind (arith, eqb_tells, is) in
        let alike : ends_alike outcomes (begin + i) (begin + k) ≡ true =
        ap (λ (b : Bool). not b || ends_alike outcomes (begin + i) (begin + k)) (sym test) ∙ own in
        (bytes_eq-Decides (ends_at outcomes (begin + i)) (ends_at outcomes (begin + k))).0 alike

    back : ((i : ℕ) → slice_get places i ≡ Some k → ends_at outcomes (begin + i) ≡ ends_at outcomes (begin + k)) → same_at outcomes begin places k ≡ true
    back each = all_pass (ends_as outcomes begin places k) (length places) (λ i lt. by_test i lt (slice_index_or places i 0 == k) refl)
      where
        by_test : (i : ℕ) → i < length places → (b : Bool) → (slice_index_or places i 0 == k) ≡ b → ends_as outcomes begin places k i ≡ true
        by_test i lt false test = ap (λ (b : Bool). not b || ends_alike outcomes (begin + i) (begin + k)) test
        by_test i lt true test =
            let is : slice_index_or places i 0 ≡ k = grind (arith, eqb_tells, test) in
            let same = each i (slice_get-get_or places i 0 lt ∙ ap (λ n. Some n) is) in
            ap (λ (b : Bool). not b || ends_alike outcomes (begin + i) (begin + k)) test
            ∙ (bytes_eq-Decides (ends_at outcomes (begin + i)) (ends_at outcomes (begin + k))).1 same
