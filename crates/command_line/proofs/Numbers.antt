-- Words of numbers, read to the byte.
use Rattle.std.proofs.Common.{ℕ, zero, suc, ◌≡◌, ◌+◌, ◌<◌, ◌≤◌, ◌^◌, List, length, get_or, Result, Ok, Err, refl, sym, subst, ◌∙◌, ap, arith}
use Rattle.std.specs.Fmt.{decimal}
use Rattle.std.specs.Str.Parse.{AllDigits, digits_value, ParsesUnsigned}
use Rattle.std.proofs.lemmas.Str.Parse.{IsNumeralModel, numerals_by_value, tells_digits, parse_plain, not_in_digits}
use Rattle.std.proofs.lemmas.Fmt.{parse-decimal, decimal_nonempty, first_decimal, decimal_digit, digits_decimal, decimal-digits_value, decimal_injective}
use Rattle.command_line.specs.Number.{IsNumber, IsPlain, NoNumber}

own : IsNumeralModel (AllDigits 10) (digits_value 10)
own = numerals_by_value (AllDigits 10) tells_digits

-- the word of a number is plain
decimal_plain : (n : ℕ) → n < 2 ^ 64 → IsPlain (decimal n)
decimal_plain n small = record {
  some = decimal_nonempty n small;
  sign = not_in_digits own (decimal n) 43 (digits_decimal own n small) (λ range. let low = range.0 in omega (arith, low)) 0 (decimal_nonempty n small);
  zeros = by_zero n small;
}
  where
    by_zero : (n : ℕ) → n < 2 ^ 64 → get_or (decimal n) 0 0 ≡ 48 → length (decimal n) ≡ 1
    by_zero zero small first = ap length (decimal_digit 0 (omega arith))
    by_zero (suc k) small first = absurd (let above = first_decimal (suc k) (omega arith) small in omega (arith, above, first))

pub not_plain : (word : List ℕ) → (IsPlain word → ⊥) → NoNumber 64 word
not_plain word lack n is = lack (rw is.digits (decimal_plain n is.small))

pub plain_number : (word : List ℕ) (n : ℕ) → IsPlain word → ParsesUnsigned {E = ℕ} 64 10 word (Ok n) → IsNumber 64 word n
plain_number word n plain parsed =
    let (digits, value) = parse_plain own {E = ℕ} 64 word (Ok n) parsed plain.sign in
    let small = digits.2 in
    record { small = rw value small; digits = sym (decimal-digits_value own word digits.0 digits.1 plain.zeros small) ∙ ap decimal (sym value) }

pub no_number : (word : List ℕ) → ParsesUnsigned {E = ℕ} 64 10 word (Err 0) → NoNumber 64 word
no_number word parsed n is =
    let small = is.small in
    let bad : ◌≡◌ {A = Result ℕ ℕ} (Err 0) (Ok n) = parse-decimal {E = ℕ} 64 n word (Err 0) small (omega (arith, small)) is.digits parsed in cc

-- the word of a number that 32 bits don't hold is that of none that they hold
pub too_large : (word : List ℕ) (n : ℕ) → IsNumber 64 word n → 4294967295 < n → NoNumber 32 word
too_large word n is large m other =
    let low = other.small in
    let same : m ≡ n = decimal_injective m n (omega (arith, low)) is.small (sym other.digits ∙ is.digits) in
    omega (arith, same, low, large)
