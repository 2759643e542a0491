-- Bytes that differ, one after the other.
use Rattle.std.proofs.Common.{◌≡◌, ℕ, zero, suc, not, ◌==◌, slice_index, ◌+◌, ◌<◌, ◌≤◌, true, false, if◌then◌else◌, List, [], length, slice_get, Some, None, refl, sym, ap, ◌∙◌, arith}
use Rattle.std.proofs.lemmas.Bool.Decides.{nat_tests}
use Rattle.crash_text.specs.Sectors.{differs, differences, sector_difference}
use Rattle.crash_text.proofs.Steps.{count_more, none_more, first_is}

pub none_counted : (left right : List ℕ) (start : ℕ) → (0 ≡ length (differences left right start 0)) × (0 ≤ 0)
unfolding differences
none_counted left right start = (refl, omega arith)

pub one_counted : (left right : List ℕ) (start n old one : ℕ) → (old ≡ length (differences left right start n)) × (old ≤ n) → one ≡ (if differs left right (start + n) then 1 else 0) → one ≤ 1
    → (old + one ≡ length (differences left right start (n + 1))) × (old + one ≤ n + 1)
unfolding differences
one_counted left right start n old one so_far e few =
    (count_more (differs left right) old (old + one) start n so_far.0 (ap (λ (k : ℕ). old + k) e), omega (arith, so_far.1, few))

pub none_seen : (left right : List ℕ) → differences left right 0 0 ≡ []
unfolding differences
none_seen left right = refl

pub still_none : (left right : List ℕ) (n : ℕ) → differences left right 0 n ≡ [] → differs left right n ≡ false → differences left right 0 (n + 1) ≡ []
unfolding differences
still_none left right n so_far e = none_more (differs left right) n so_far e

pub first_seen : (left right : List ℕ) (n : ℕ) → differences left right 0 n ≡ [] → differs left right n ≡ true → n < 512 → Some n ≡ slice_get (differences left right 0 512) 0
unfolding differences
first_seen left right n so_far e below = first_is (differs left right) n 512 so_far e below

pub never_seen : (left right : List ℕ) (n : ℕ) → differences left right 0 n ≡ [] → n ≡ 512 → None ≡ slice_get (differences left right 0 512) 0
never_seen left right n so_far end = ap (λ (xs : List ℕ). slice_get xs 0) (sym so_far ∙ ap (differences left right 0) end)

-- equal sectors differ nowhere
pub same_differ_nowhere : (left right : List ℕ) (n : ℕ) → left ≡ right → differences left right 0 n ≡ []
same_differ_nowhere left right zero e = none_seen left right
same_differ_nowhere left right (suc n) e =
    let more : suc n ≡ n + 1 = omega arith in
    ap (λ (k : ℕ). differences left right 0 k) more ∙ still_none left right n (same_differ_nowhere left right n e) (rw e (same_byte (slice_index right n)))
  where
    same_byte : (x : ℕ) → not (x == x) ≡ false
    same_byte x = grind (arith, nat_tests)

-- so nothing of them is said
pub same_say_nothing : (n : ℕ) (left right : List ℕ) → left ≡ right → sector_difference n left right ≡ []
unfolding sector_difference
same_say_nothing n left right e = rw (same_differ_nowhere left right 512 e) refl
