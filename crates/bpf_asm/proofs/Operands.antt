-- The operands of a listing, read back.
use Rattle.std.proofs.Common.{◌≡◌, ℕ, ℤ, pos, negsuc, suc, ◌<◌, ◌^◌, inl, inr, Bool, true, false, List, [], ◌∷◌, ◌++◌, length, Option, None, Some, option_map, refl, sym, ap, ◌∙◌, arith, append_assoc}
use Rattle.std.specs.Fmt.{decimal, signed_decimal}
use Rattle.std.specs.Prelude.{unsigned_abs}
use Rattle.std.proofs.Common.{lit<}
use Rattle.std.proofs.lemmas.Bool.{cases_lt}
use Rattle.std.proofs.lemmas.Fmt.{decimal_digit, decimal_step}
use Rattle.bpf_asm.specs.declared.number.Number.{Number}
use Rattle.bpf_asm.specs.Parts.{Part, Word, Mark, parts, goes_on, IsWord, is_word_character}
use Rattle.bpf_asm.specs.Words.{number_with_sign, register_of}
use Rattle.bpf_asm.specs.Operands.{Reading, register, magnitude_of, number, sign, distance, operand, place, target, mark, or_number, InRegister, Constant, At, ◌>>=◌, last_operand, with_comma, one, two, three}
use Rattle.bpf_asm.specs.Listing.{with_sign, register_text, place_text, operand_list}
use Rattle.bpf_asm.proofs.Parts.{word_parts, blank_front}
use Rattle.bpf_asm.proofs.Printed.{decimal_spells, digits_in_word, number_of_decimal, register_small, AreDigits, no_register_of}

-- the text is read as this value, whatever follows that is no part of its last word
pub record Prints {X : Type 0} (reading : Reading X) (text : List ℕ) (x : X) : Type 0 where
  pub read : (rest : List ℕ) → goes_on rest ≡ false → reading (parts (text ++ rest)) ≡ Some (x, parts rest)

pub word_in_front : (w rest : List ℕ) → IsWord w → 0 < length w → goes_on rest ≡ false → parts (w ++ rest) ≡ Word w ∷ parts rest
word_in_front [] rest h some e = absurd (omega arith)
word_in_front (c ∷ w) rest h some e = word_parts c w rest h e

decimal_parts : (n : ℕ) (rest : List ℕ) → n < 2 ^ 64 → goes_on rest ≡ false → parts (decimal n ++ rest) ≡ Word (decimal n) ∷ parts rest
decimal_parts n rest small e = let s = decimal_spells n small in word_in_front (decimal n) rest (digits_in_word (decimal n) s.digits) s.some e

unsigned_word : (negative : Bool) (n : ℕ) (rest : List Part) → n < 2 ^ 64 → magnitude_of negative (Word (decimal n) ∷ rest) ≡ Some (number_with_sign negative n, rest)
unfolding magnitude_of
unsigned_word negative n rest small = rw (number_of_decimal n small) refl

pub prints_unsigned : (negative : Bool) (n : ℕ) → n < 2 ^ 64 → Prints (magnitude_of negative) (decimal n) (number_with_sign negative n)
prints_unsigned negative n small = record { read = λ rest e. rw (decimal_parts n rest small e) (unsigned_word negative n (parts rest) small) }

minus_parts : (rest : List ℕ) → parts (45 ∷ rest) ≡ Mark 45 ∷ parts rest
unfolding parts is_word_character
minus_parts rest = refl

plus_parts : (rest : List ℕ) → parts (43 ∷ rest) ≡ Mark 43 ∷ parts rest
unfolding parts is_word_character
plus_parts rest = refl

number_word : (w : List ℕ) (rest : List Part) → number (Word w ∷ rest) ≡ magnitude_of false (Word w ∷ rest)
unfolding number
number_word w rest = refl

number_minus : (rest : List Part) → number (Mark 45 ∷ rest) ≡ magnitude_of true rest
unfolding number
number_minus rest = refl

-- a number as it is held
unfoldable pub held_as : ℤ → Number
held_as (pos n) = number_with_sign false n
held_as (negsuc n) = number_with_sign true (suc n)

pub prints_number : (z : ℤ) → unsigned_abs z < 2 ^ 63 → Prints number (signed_decimal z) (held_as z)
unfolding held_as
prints_number (pos n) small = record { read = λ rest e. rw (decimal_parts n rest (omega arith) e) (number_word (decimal n) (parts rest) ∙ unsigned_word false n (parts rest) (omega arith)) }
prints_number (negsuc n) small = record {
  read = λ rest e.
      ap number (minus_parts (decimal (suc n) ++ rest)) ∙ number_minus (parts (decimal (suc n) ++ rest))
      ∙ (prints_unsigned true (suc n) (omega arith)).read rest e;
}

-- a distance
distance_sign : (rest : List Part) → distance (Mark 43 ∷ rest) ≡ magnitude_of false rest
unfolding distance sign
distance_sign rest = refl

distance_minus : (rest : List Part) → distance (Mark 45 ∷ rest) ≡ magnitude_of true rest
unfolding distance sign
distance_minus rest = refl

pub prints_distance : (z : ℤ) → unsigned_abs z < 2 ^ 63 → Prints distance (with_sign z) (held_as z)
unfolding held_as
prints_distance (pos n) small = record {
  read = λ rest e.
      ap distance (plus_parts (decimal n ++ rest)) ∙ distance_sign (parts (decimal n ++ rest)) ∙ (prints_unsigned false n (omega arith)).read rest e;
}
prints_distance (negsuc n) small = record {
  read = λ rest e.
      ap distance (minus_parts (decimal (suc n) ++ rest)) ∙ distance_minus (parts (decimal (suc n) ++ rest))
      ∙ (prints_unsigned true (suc n) (omega arith)).read rest e;
}

target_plus : (rest : List Part) → target (Mark 43 ∷ rest) ≡ option_map (λ x. (At x.0, x.1)) (distance (Mark 43 ∷ rest))
unfolding target
target_plus rest = refl

target_minus : (rest : List Part) → target (Mark 45 ∷ rest) ≡ option_map (λ x. (At x.0, x.1)) (distance (Mark 45 ∷ rest))
unfolding target
target_minus rest = refl

pub prints_target : (z : ℤ) → unsigned_abs z < 2 ^ 63 → Prints target (with_sign z) (At (held_as z))
prints_target (pos n) small = record {
  read = λ rest e.
      ap target (plus_parts (decimal n ++ rest)) ∙ target_plus (parts (decimal n ++ rest))
      ∙ ap (option_map (λ x. (At x.0, x.1))) (ap distance (sym (plus_parts (decimal n ++ rest))) ∙ (prints_distance (pos n) small).read rest e);
}
prints_target (negsuc n) small = record {
  read = λ rest e.
      ap target (minus_parts (decimal (suc n) ++ rest)) ∙ target_minus (parts (decimal (suc n) ++ rest))
      ∙ ap (option_map (λ x. (At x.0, x.1))) (ap distance (sym (minus_parts (decimal (suc n) ++ rest))) ∙ (prints_distance (negsuc n) small).read rest e);
}

-- a register
register_word : (w : List ℕ) (r : ℕ) (rest : List Part) → register_of w ≡ Some r → register (Word w ∷ rest) ≡ Some (r, rest)
unfolding register
register_word w r rest e = rw e refl

ten_text : register_of (114 ∷ 49 ∷ 48 ∷ []) ≡ Some 10
unfolding register_of
ten_text = refl

ten : register_of (register_text 10) ≡ Some 10
ten =
    let one : decimal 1 ≡ 49 ∷ [] = decimal_digit 1 (lit< tt) in
    let both : decimal 10 ≡ decimal 1 ++ 48 ∷ [] = decimal_step 10 (omega arith) (omega arith) in
    ap (λ (ds : List ℕ). register_of (114 ∷ ds)) (both ∙ ap (λ (ds : List ℕ). ds ++ 48 ∷ []) one) ∙ ten_text

register_read : (r : ℕ) → r < 11 → register_of (register_text r) ≡ Some r
register_read r small = elim (cases_lt r 10) [
  | inl below ↦ ap (λ (ds : List ℕ). register_of (114 ∷ ds)) (decimal_digit r below) ∙ register_small r below
  | inr above ↦ let is : r ≡ 10 = omega arith in rw is ten
]

r_in_word : is_word_character 114 ≡ true
unfolding is_word_character
r_in_word = refl

register_in_word : (r : ℕ) → r < 11 → IsWord (register_text r)
register_in_word r small = (r_in_word, digits_in_word (decimal r) (decimal_spells r (omega arith)).digits)

register_parts : (r : ℕ) (rest : List ℕ) → r < 11 → goes_on rest ≡ false → parts (register_text r ++ rest) ≡ Word (register_text r) ∷ parts rest
register_parts r rest small e = word_parts 114 (decimal r) rest (register_in_word r small) e

pub prints_register : (r : ℕ) → r < 11 → Prints register (register_text r) r
prints_register r small = record { read = λ rest e. rw (register_parts r rest small e) (register_word (register_text r) r (parts rest) (register_read r small)) }

-- a register or a number

operand_register : (w : List ℕ) (r : ℕ) (rest : List Part) → register_of w ≡ Some r → operand (Word w ∷ rest) ≡ Some (InRegister r, rest)
unfolding operand register
operand_register w r rest e = rw e refl

pub prints_operand_register : (r : ℕ) → r < 11 → Prints operand (register_text r) (InRegister r)
prints_operand_register r small = record { read = λ rest e. rw (register_parts r rest small e) (operand_register (register_text r) r (parts rest) (register_read r small)) }

no_register : (ds : List ℕ) (rest : List Part) → AreDigits ds → register (Word ds ∷ rest) ≡ None
unfolding register
no_register ds rest h = rw (no_register_of ds h) refl

operand_is : (ps : List Part) → operand ps ≡ or_number (register ps) (number ps)
unfolding operand
operand_is ps = refl

register_mark : (m : ℕ) (rest : List Part) → register (Mark m ∷ rest) ≡ None
unfolding register
register_mark m rest = refl

pub prints_operand_number : (z : ℤ) → unsigned_abs z < 2 ^ 63 → Prints operand (signed_decimal z) (Constant (held_as z))
prints_operand_number (pos n) small = record {
  read = λ rest e.
      let read = (prints_number (pos n) small).read rest e in
      let none : register (parts (decimal n ++ rest)) ≡ None = ap register (decimal_parts n rest (omega arith) e) ∙ no_register (decimal n) (parts rest) (decimal_spells n (omega arith)).digits in
      operand_is (parts (decimal n ++ rest)) ∙ rw (none, read) refl;
}
prints_operand_number (negsuc n) small = record {
  read = λ rest e.
      let read = (prints_number (negsuc n) small).read rest e in
      let none : register (parts (45 ∷ (decimal (suc n) ++ rest))) ≡ None = ap register (minus_parts (decimal (suc n) ++ rest)) ∙ register_mark 45 (parts (decimal (suc n) ++ rest)) in
      operand_is (parts (45 ∷ (decimal (suc n) ++ rest))) ∙ rw (none, read) refl;
}

-- a memory place

open_parts : (rest : List ℕ) → parts (91 ∷ rest) ≡ Mark 91 ∷ parts rest
unfolding parts is_word_character
open_parts rest = refl

close_parts : (rest : List ℕ) → parts (93 ∷ rest) ≡ Mark 93 ∷ parts rest
unfolding parts is_word_character
close_parts rest = refl

ends_at_sign : (z : ℤ) (rest : List ℕ) → goes_on (with_sign z ++ rest) ≡ false
unfolding goes_on is_word_character
ends_at_sign (pos n) rest = refl
ends_at_sign (negsuc n) rest = refl

ends_at_close : (rest : List ℕ) → goes_on (93 ∷ rest) ≡ false
unfolding goes_on is_word_character
ends_at_close rest = refl

place_is : (ps : List Part) → place ps ≡ (mark 91 ps >>= (λ inside. register inside >>= (λ base. distance base.1 >>= (λ offset. mark 93 offset.1 >>= (λ rest. Some ((base.0, offset.0), rest))))))
unfolding place
place_is ps = refl

pub prints_place : (base : ℕ) (z : ℤ) → base < 11 → unsigned_abs z < 2 ^ 63 → Prints place (place_text base z) (base, held_as z)
prints_place base z small fits = record {
  read = λ rest e.
      let tail = with_sign z ++ 93 ∷ rest in
      let regrouped : place_text base z ++ rest ≡ 91 ∷ (register_text base ++ tail) =
      simp append_assoc refl in
      let base_read = (prints_register base small).read tail (ends_at_sign z (93 ∷ rest)) in
      let offset_read = (prints_distance z fits).read (93 ∷ rest) (ends_at_close rest) in
      place_is (parts (place_text base z ++ rest)) ∙ rw (regrouped, open_parts (register_text base ++ tail), base_read, offset_read, close_parts rest) refl;
}

-- Lists of operands.

ends : goes_on [] ≡ false
unfolding goes_on
ends = refl

ended_there : {A : Type 0} (x : A) (r : Option (A × List Part)) → r ≡ Some (x, parts []) → last_operand r ≡ Some x
unfolding parts
ended_there x r e = rw e refl

pub one_read : {A : Type 0} (first : Reading A) (t : List ℕ) (x : A) → Prints first t x → one first (parts (operand_list (t ∷ []))) ≡ Some x
one_read first t x p =
    let flat : parts (operand_list (t ∷ [])) ≡ parts (t ++ []) = blank_front 32 (t ++ []) refl in
    ap (one first) flat ∙ ended_there x (first (parts (t ++ []))) (p.read [] ends)

comma_parts : (rest : List ℕ) → parts (44 ∷ 32 ∷ rest) ≡ Mark 44 ∷ parts rest
unfolding parts is_word_character
comma_parts rest = refl

ends_at_comma : (rest : List ℕ) → goes_on (44 ∷ rest) ≡ false
unfolding goes_on is_word_character
ends_at_comma rest = refl

comma_there : {A : Type 0} (x : A) (rest : List ℕ) (r : Option (A × List Part)) → r ≡ Some (x, parts (44 ∷ 32 ∷ rest)) → with_comma r ≡ Some (x, parts rest)
comma_there x rest r e = rw (e, comma_parts rest) refl

pub two_read : {A B : Type 0} (first : Reading A) (second : Reading B) (t u : List ℕ) (x : A) (y : B) → Prints first t x → Prints second u y
    → two first second (parts (operand_list (t ∷ u ∷ []))) ≡ Some (x, y)
two_read first second t u x y p q =
    let flat : operand_list (t ∷ u ∷ []) ≡ 32 ∷ (t ++ 44 ∷ 32 ∷ (u ++ [])) = simp append_assoc refl in
    let one : with_comma (first (parts (t ++ 44 ∷ 32 ∷ (u ++ [])))) ≡ Some (x, parts (u ++ [])) =
    comma_there x (u ++ []) (first (parts (t ++ 44 ∷ 32 ∷ (u ++ [])))) (p.read (44 ∷ 32 ∷ (u ++ [])) (ends_at_comma (32 ∷ (u ++ [])))) in
    let last : last_operand (second (parts (u ++ []))) ≡ Some y = ended_there y (second (parts (u ++ []))) (q.read [] ends) in
    rw (flat, blank_front 32 (t ++ 44 ∷ 32 ∷ (u ++ [])) refl, one, last) refl

pub three_read : {A B C : Type 0} (first : Reading A) (second : Reading B) (third : Reading C) (t u v : List ℕ) (x : A) (y : B) (z : C) → Prints first t x → Prints second u y → Prints third v z
    → three first second third (parts (operand_list (t ∷ u ∷ v ∷ []))) ≡ Some (x, y, z)
three_read first second third t u v x y z p q r =
    let beyond = u ++ 44 ∷ 32 ∷ (v ++ []) in
    let flat : operand_list (t ∷ u ∷ v ∷ []) ≡ 32 ∷ (t ++ 44 ∷ 32 ∷ (u ++ 44 ∷ 32 ∷ (v ++ []))) = simp append_assoc refl in
    let one : with_comma (first (parts (t ++ 44 ∷ 32 ∷ (u ++ 44 ∷ 32 ∷ (v ++ []))))) ≡ Some (x, parts (u ++ 44 ∷ 32 ∷ (v ++ []))) =
    comma_there x (u ++ 44 ∷ 32 ∷ (v ++ [])) (first (parts (t ++ 44 ∷ 32 ∷ (u ++ 44 ∷ 32 ∷ (v ++ []))))) (p.read (44 ∷ 32 ∷ (u ++ 44 ∷ 32 ∷ (v ++ []))) (ends_at_comma (32 ∷ (u ++ 44 ∷ 32 ∷ (v ++ []))))) in
    let next : with_comma (second (parts (u ++ 44 ∷ 32 ∷ (v ++ [])))) ≡ Some (y, parts (v ++ [])) =
    comma_there y (v ++ []) (second (parts (u ++ 44 ∷ 32 ∷ (v ++ [])))) (q.read (44 ∷ 32 ∷ (v ++ [])) (ends_at_comma (32 ∷ (v ++ [])))) in
    let last : last_operand (third (parts (v ++ []))) ≡ Some z = ended_there z (third (parts (v ++ []))) (r.read [] ends) in
    rw (flat, blank_front 32 (t ++ 44 ∷ 32 ∷ (u ++ 44 ∷ 32 ∷ (v ++ []))) refl, one, next, last) refl

-- a number of 64 bits
pub number_of_wide : (n : ℕ) → n < 2 ^ 64 → Prints number (decimal n) (number_with_sign false n)
number_of_wide n small = record { read = λ rest e. rw (decimal_parts n rest small e) (number_word (decimal n) (parts rest) ∙ unsigned_word false n (parts rest) small) }
