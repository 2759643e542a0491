-- Instructions that no run reaches, counted slot by slot.
use Rattle.std.proofs.Common.{ℕ, ◌≡◌, ◌+◌, Bool, true, false, List, [], ◌∷◌, ◌++◌, filter, length, Option, None, Some, IfSome, ◌≤◌, ap, refl, arith}
use Rattle.std.specs.List.{range_with_len}
use Rattle.std.proofs.lemmas.List.{length-append, append-nil}
use Rattle.std.proofs.lemmas.List.Elements.{filter-append}
use Rattle.base.proofs.Lists.{range_with_len-more}
use Rattle.verifier.specs.declared.unreached.Unreached.{Unreached}
use Rattle.verifier.specs.Reach.{count_and_first, and_slot}

one_more_chosen : (p : ℕ → Bool) (n : ℕ) → filter p (range_with_len 0 (n + 1)) ≡ filter p (range_with_len 0 n) ++ filter p (n ∷ [])
one_more_chosen p n =
    let z : 0 + n ≡ n = omega arith in
    rw (range_with_len-more 0 n, z, filter-append p (range_with_len 0 n) (n ∷ [])) refl

counted_more : (xs : List ℕ) (n : ℕ) → count_and_first (xs ++ n ∷ []) ≡ and_slot (count_and_first xs) n
counted_more [] n = refl
counted_more (x ∷ xs) n =
    let long : length (x ∷ (xs ++ n ∷ [])) ≡ length (x ∷ xs) + 1 = omega (arith, length-append xs (n ∷ [])) in
    ap (λ (k : ℕ). Some (k, x)) long

-- with the instruction of one more slot, if no run reaches it
pub counted_chosen : (p : ℕ → Bool) (n : ℕ) → p n ≡ true → count_and_first (filter p (range_with_len 0 (n + 1))) ≡ and_slot (count_and_first (filter p (range_with_len 0 n))) n
counted_chosen p n e = rw (one_more_chosen p n, e) (counted_more (filter p (range_with_len 0 n)) n)

pub counted_passed : (p : ℕ → Bool) (n : ℕ) → p n ≡ false → count_and_first (filter p (range_with_len 0 (n + 1))) ≡ count_and_first (filter p (range_with_len 0 n))
counted_passed p n e = rw (one_more_chosen p n, e) (ap count_and_first (append-nil (filter p (range_with_len 0 n))))

pub few_more : (found : Option Unreached) (n : ℕ) → IfSome found (λ u. u.count ≤ n) → IfSome found (λ u. u.count ≤ n + 1)
few_more None n h = h
few_more (Some u) n h = omega (arith, h)

-- the slots that are chosen, with one more, if it is chosen
pub chosen_more : (p : ℕ → Bool) (n : ℕ) → p n ≡ true → filter p (range_with_len 0 n) ++ n ∷ [] ≡ filter p (range_with_len 0 (n + 1))
chosen_more p n e = rw (one_more_chosen p n, e) refl

pub passed_more : (p : ℕ → Bool) (n : ℕ) → p n ≡ false → filter p (range_with_len 0 n) ≡ filter p (range_with_len 0 (n + 1))
passed_more p n e = rw (one_more_chosen p n, e, append-nil (filter p (range_with_len 0 n))) refl
