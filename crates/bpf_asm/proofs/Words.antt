-- Digits, one more at a time.
use Rattle.std.proofs.Common.{◌≡◌, ℕ, ◌+◌, ◌*◌, ◌<◌, ◌≤◌, List, [], ◌∷◌, length, get_or, drop, Option, Some, None, option_map, refl, sym, ap, ◌∙◌, arith}
use Rattle.std.proofs.lemmas.Bool.{lt-ltb, le-ltb}
use Rattle.std.proofs.Math.Seq.{drop-length}
use Rattle.bpf_asm.specs.Words.{digit, numeral_from, numeral, in_64_bits}
use Rattle.bpf_asm.proofs.Parts.{drop_there}

-- after the first i digits, which make n
pub record NumeralSoFar (base : ℕ) (digits : List ℕ) (i : ℕ) (magnitude : Option ℕ) : Type 0 where
  pub n : ℕ
  pub is : magnitude ≡ in_64_bits n
  pub rest : numeral_from base n (drop i digits) ≡ numeral_from base 0 digits

-- no digit was read
pub start : (base : ℕ) (digits : List ℕ) → NumeralSoFar base digits 0 (Some 0)
start base digits = record { n = 0; is = refl; rest = refl }

digit_step : (base n c : ℕ) (rest : List ℕ) → digit c < base → numeral_from base n (c ∷ rest) ≡ numeral_from base (base * n + digit c) rest
unfolding numeral_from
digit_step base n c rest below = rw (lt-ltb (digit c) base below) refl

no_digit_step : (base n c : ℕ) (rest : List ℕ) → base ≤ digit c → numeral_from base n (c ∷ rest) ≡ None
unfolding numeral_from
no_digit_step base n c rest above = rw (le-ltb (digit c) base above) refl

no_more : (base n : ℕ) → numeral_from base n [] ≡ Some n
unfolding numeral_from
no_more base n = refl

-- one digit more
pub one_more : (base : ℕ) (digits : List ℕ) (i : ℕ) (m more : Option ℕ) → i < length digits → digit (get_or digits i 0) < base → NumeralSoFar base digits i m
    → ((n : ℕ) → m ≡ in_64_bits n → more ≡ in_64_bits (base * n + digit (get_or digits i 0))) → NumeralSoFar base digits (i + 1) more
one_more base digits i m more there below so_far next = record {
  n = base * so_far.n + digit (get_or digits i 0);
  is = next so_far.n so_far.is;
  rest = sym (digit_step base so_far.n (get_or digits i 0) (drop (i + 1) digits) below) ∙ ap (numeral_from base so_far.n) (sym (drop_there digits i there)) ∙ so_far.rest;
}

some_digits : (base : ℕ) (digits : List ℕ) → 0 < length digits → numeral base digits ≡ numeral_from base 0 digits
some_digits base [] some = absurd (omega arith)
some_digits base (c ∷ rest) some = refl

-- another character
pub not_a_numeral : (base : ℕ) (digits : List ℕ) (i : ℕ) (m : Option ℕ) → i < length digits → base ≤ digit (get_or digits i 0) → NumeralSoFar base digits i m
    → numeral base digits ≡ None
not_a_numeral base digits i m there above so_far =
    some_digits base digits (omega arith) ∙ sym so_far.rest ∙ ap (numeral_from base so_far.n) (drop_there digits i there)
    ∙ no_digit_step base so_far.n (get_or digits i 0) (drop (i + 1) digits) above

-- the end
pub whole_numeral : (base : ℕ) (digits : List ℕ) (i : ℕ) (m : Option ℕ) → 0 < length digits → i ≡ length digits → NumeralSoFar base digits i m
    → Some m ≡ option_map in_64_bits (numeral base digits)
whole_numeral base digits i m some end so_far =
    let ended : numeral_from base so_far.n (drop i digits) ≡ Some so_far.n = ap (λ (k : ℕ). numeral_from base so_far.n (drop k digits)) end ∙ ap (numeral_from base so_far.n) (drop-length digits) ∙ no_more base so_far.n in
    let all : numeral base digits ≡ Some so_far.n = some_digits base digits some ∙ sym so_far.rest ∙ ended in
    rw (all, so_far.is) refl
