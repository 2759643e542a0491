-- The words of a listing, read back.
use Rattle.std.proofs.Common.{◌≡◌, ℕ, ◌+◌, ◌-◌, ◌*◌, ◌/◌, ◌%◌, ◌<◌, ◌≤◌, ◌^◌, ◌==◌, inl, inr, Bool, true, false, if◌then◌else◌, List, [], ◌∷◌, ◌++◌, length, length-append, nat_lt, None, Some, refl, ap, ◌∙◌, arith}
use Rattle.std.specs.Fmt.{decimal}
use Rattle.std.proofs.lemmas.Fmt.{decimal_by_steps}
use Rattle.std.proofs.lemmas.Bool.{lt-ltb, cases_Bool}
use Rattle.std.proofs.lemmas.Bool.Decides.{nat_tests}
use Rattle.bpf_asm.specs.Parts.{IsWord, is_word_character}
use Rattle.bpf_asm.specs.Words.{digit, numeral_from, numeral, number_of, register_of, is_hexadecimal}
use Rattle.bpf_asm.specs.Operands.{◌>>=◌}

-- decimal digits
abbrev pub AreDigits : List ℕ → Type 0
AreDigits [] = Unit {0}
AreDigits (c ∷ rest) = (48 ≤ c) × (c < 58) × AreDigits rest

pub digits_append : (xs ys : List ℕ) → AreDigits xs → AreDigits ys → AreDigits (xs ++ ys)
digits_append [] ys a b = b
digits_append (c ∷ xs) ys a b = (a.0, a.1, digits_append xs ys a.2 b)

digit_is : (n : ℕ) → n < 10 → digit (48 + n) ≡ n
unfolding digit
digit_is n small = grind (arith, nat_tests)

pub numeral_push : (m : ℕ) (xs : List ℕ) (c : ℕ) → numeral_from 10 m (xs ++ c ∷ []) ≡ (numeral_from 10 m xs >>= (λ k. numeral_from 10 k (c ∷ [])))
unfolding numeral_from
numeral_push m [] c = refl
numeral_push m (x ∷ xs) c = by_test (nat_lt (digit x) 10) (numeral_push (10 * m + digit x) xs c)
  where
    by_test : (b : Bool) → numeral_from 10 (10 * m + digit x) (xs ++ c ∷ []) ≡ (numeral_from 10 (10 * m + digit x) xs >>= (λ k. numeral_from 10 k (c ∷ [])))
        → (if b then numeral_from 10 (10 * m + digit x) (xs ++ c ∷ []) else None) ≡ ((if b then numeral_from 10 (10 * m + digit x) xs else None) >>= (λ k. numeral_from 10 k (c ∷ [])))
    by_test true ih = ih
    by_test false ih = refl

-- the digits of a number
pub record Spells (n : ℕ) (ds : List ℕ) : Type 0 where
  pub digits : AreDigits ds
  pub some : 0 < length ds
  pub value : numeral_from 10 0 ds ≡ Some n

one_digit : (m n : ℕ) → n < 10 → numeral_from 10 m ((48 + n) ∷ []) ≡ Some (10 * m + n)
unfolding numeral_from
one_digit m n small = rw (digit_is n small, lt-ltb n 10 small) refl

spells_one : (n : ℕ) → n < 10 → Spells n ((48 + n) ∷ [])
spells_one n small = record {
  digits = (omega arith, omega arith, tt);
  some = omega arith;
  value = one_digit 0 n small ∙ ap (λ (k : ℕ). Some k) (omega arith);
}

spells_more : (n : ℕ) (ds : List ℕ) → 10 ≤ n → Spells (n / 10) ds → Spells n (ds ++ (48 + n % 10) ∷ [])
spells_more n ds big s =
    let small : n % 10 < 10 = omega arith in
    let whole : 10 * (n / 10) + n % 10 ≡ n = omega arith in
    record {
      digits = digits_append ds ((48 + n % 10) ∷ []) s.digits (omega arith, omega arith, tt);
      some = rw (length-append ds ((48 + n % 10) ∷ [])) (omega arith);
      value = numeral_push 0 ds (48 + n % 10) ∙ rw s.value (one_digit (n / 10) (n % 10) small ∙ ap (λ (k : ℕ). Some k) whole);
    }

pub decimal_spells : (n : ℕ) → n < 2 ^ 64 → Spells n (decimal n)
decimal_spells n small = decimal_by_steps Spells spells_one spells_more n small

-- Digits are characters of a word, and no hexadecimal number.

digit_in_word : (c : ℕ) → 48 ≤ c → c < 58 → is_word_character c ≡ true
unfolding is_word_character
digit_in_word c low high = grind (arith, nat_tests)

pub digits_in_word : (ds : List ℕ) → AreDigits ds → IsWord ds
digits_in_word [] h = tt
digits_in_word (c ∷ ds) h = (digit_in_word c h.0 h.1, digits_in_word ds h.2)

not_x : (ds : List ℕ) → AreDigits ds → is_hexadecimal ds ≡ false
not_x [] h = refl
not_x (c ∷ []) h = refl
not_x (c ∷ d ∷ ds) h = let low = h.2.1 in grind (arith, nat_tests)

some_digits : (ds : List ℕ) → 0 < length ds → numeral 10 ds ≡ numeral_from 10 0 ds
some_digits [] some = absurd (omega arith)
some_digits (c ∷ ds) some = refl

pub number_of_decimal : (n : ℕ) → n < 2 ^ 64 → number_of (decimal n) ≡ Some n
unfolding number_of
number_of_decimal n small =
    let s = decimal_spells n small in
    rw (not_x (decimal n) s.digits) (some_digits (decimal n) s.some ∙ s.value)

pub register_small : (n : ℕ) → n < 10 → register_of (114 ∷ (48 + n) ∷ []) ≡ Some n
unfolding register_of
register_small n small = let back : 48 + n - 48 ≡ n = omega arith in grind (arith, nat_tests)

-- digits name no register
pub no_register_of : (ds : List ℕ) → AreDigits ds → register_of ds ≡ None
unfolding register_of
no_register_of [] h = refl
no_register_of (c ∷ ds) h =
    let low = h.1 in
    let other : (c == 114) ≡ false = grind (arith, nat_tests) in
    elim (cases_Bool (length (c ∷ ds) == 2)) [
      | inl y ↦ rw (y, other) refl
      | inr n ↦ rw (n, other) refl
    ]
