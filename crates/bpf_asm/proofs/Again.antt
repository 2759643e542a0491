-- The listing of a program, read back.
use Rattle.std.proofs.Common.{◌≡◌, ℕ, ℤ, pos, negsuc, zero, suc, ◌+◌, ◌<◌, ◌^◌, ◌&&◌, inl, inr, Bool, true, false, nat_le, List, [], ◌∷◌, ◌++◌, length, map, slice_get, Option, None, Some, codes, refl, sym, ap, ◌∙◌, arith, append_assoc, flat_map}
use Rattle.std.specs.Prelude.{unsigned_abs}
use Rattle.std.specs.Int.{w16, w32}
use Rattle.std.specs.Int.RustNames.{FitsSigned}
use Rattle.std.specs.Fmt.{decimal, signed_decimal}
use Rattle.std.proofs.lemmas.Int.{ints}
use Rattle.std.proofs.lemmas.Bool.{lt-ltb}
use Rattle.std.proofs.lemmas.Bool.Decides.{nat_tests, eqb_tells}
use Rattle.std.proofs.lemmas.List.{append-nil}
use Rattle.std.proofs.lemmas.Grind.{flat_map-append}
use Rattle.bpf_isa.specs.declared.instr.Instr.{Instr}
use Rattle.bpf_isa.specs.declared.instr.Instr.TheVariants as instr
use Rattle.bpf_isa.specs.declared.instr.Source.TheVariants as source
use Rattle.bpf_isa.specs.declared.fields.Fields.{Fields}
use Rattle.bpf_isa.specs.Spelling.{IsInRange, second_of}
use Rattle.bpf_isa.specs.Program.{entry, slots_of, AllInRange}
use Rattle.bpf_asm.specs.declared.mnemonic.Mnemonic.{Mnemonic}
use Rattle.bpf_asm.specs.declared.mnemonic.Mnemonic.TheVariants as kind
use Rattle.bpf_asm.specs.Parts.{Part, Word, Mark, parts, goes_on, IsWord, is_word_character, lines}
use Rattle.bpf_asm.specs.Words.{number_with_sign, in_range, in_wide_range}
use Rattle.bpf_asm.specs.Mnemonics.{name_of, mnemonic, mnemonic_of}
use Rattle.bpf_asm.specs.Operands.{register, magnitude_of, number, sign, distance, operand, place, target, Draft, draft, whole, Constant, InRegister, At}
use Rattle.bpf_asm.specs.Statements.{Statement, Empty, Label, Instruction, statement, statement_of, is_colon}
use Rattle.bpf_asm.specs.Says.{drafts_of, label_slot, slots_in, all_placed, instr_at}
use Rattle.bpf_asm.specs.Listing.{with_sign, register_text, place_text, operand_texts, operand_list, line_text, slot_text, listing}
use Rattle.bpf_asm.specs.Laws.{ListingSays}
use Rattle.bpf_asm.proofs.Printed.{decimal_spells, digits_in_word}
use Rattle.bpf_asm.proofs.Names.{named_back, name_tested, is_word_text, all_word}
use Rattle.bpf_asm.proofs.Lines.{IsLine, is_line_append, line_split}
use Rattle.bpf_asm.proofs.Operands.{held_as, word_in_front, prints_number, prints_target, prints_register, prints_operand_register, prints_operand_number, prints_place, one_read, two_read, three_read, number_of_wide}

-- Numbers in their ranges.

pub in_32 : (z : ℤ) → FitsSigned w32 z → in_range 0x8000_0000 (held_as z) ≡ Some z
unfolding held_as
in_32 (pos n) h =
    let small : n < 0x8000_0000 = omega (arith, ints) in
    let wide : n < 2 ^ 64 = omega arith in
    rw (lt-ltb n (2 ^ 64) wide, lt-ltb n 0x8000_0000 small) refl
in_32 (negsuc n) h =
    let small : n < 0x8000_0000 = omega (arith, ints) in
    let wide : suc n < 2 ^ 64 = omega arith in
    let within : nat_le (suc n) 0x8000_0000 ≡ true = grind (arith, nat_tests) in
    rw (lt-ltb (suc n) (2 ^ 64) wide, within) refl

pub in_16 : (z : ℤ) → FitsSigned w16 z → in_range 0x8000 (held_as z) ≡ Some z
unfolding held_as
in_16 (pos n) h =
    let small : n < 0x8000 = omega (arith, ints) in
    let wide : n < 2 ^ 64 = omega arith in
    rw (lt-ltb n (2 ^ 64) wide, lt-ltb n 0x8000 small) refl
in_16 (negsuc n) h =
    let small : n < 0x8000 = omega (arith, ints) in
    let wide : suc n < 2 ^ 64 = omega arith in
    let within : nat_le (suc n) 0x8000 ≡ true = grind (arith, nat_tests) in
    rw (lt-ltb (suc n) (2 ^ 64) wide, within) refl

abs_32 : (z : ℤ) → FitsSigned w32 z → unsigned_abs z < 2 ^ 63
abs_32 (pos n) h = omega (arith, ints)
abs_32 (negsuc n) h = omega (arith, ints)

abs_16 : (z : ℤ) → FitsSigned w16 z → unsigned_abs z < 2 ^ 63
abs_16 (pos n) h = omega (arith, ints)
abs_16 (negsuc n) h = omega (arith, ints)

wide_back : (n : ℕ) → n < 2 ^ 64 → in_wide_range (number_with_sign false n) ≡ Some n
wide_back n small = rw (lt-ltb n (2 ^ 64) small) refl

-- Each instruction.

nothing_left : draft kind.Exit (parts []) ≡ Some (whole instr.Exit)
unfolding draft parts
nothing_left = refl

pub said_again : (i : Instr) → IsInRange i → draft (mnemonic i) (parts (operand_list (operand_texts i))) ≡ Some (whole i)
unfolding draft IsInRange
said_again (instr.Arithmetic w o dst (source.Immediate n)) h =
    rw (two_read register operand (register_text dst) (signed_decimal n) dst (Constant (held_as n)) (prints_register dst h.0) (prints_operand_number n (abs_32 n h.1)), in_32 n h.1) refl
said_again (instr.Arithmetic w o dst (source.Register src)) h =
    rw (two_read register operand (register_text dst) (register_text src) dst (InRegister src) (prints_register dst h.0) (prints_operand_register src h.1)) refl
said_again (instr.Negate w dst) h = rw (one_read register (register_text dst) dst (prints_register dst h)) refl
said_again (instr.SignExtend e dst src) h =
    rw (two_read register register (register_text dst) (register_text src) dst src (prints_register dst h.0) (prints_register src h.1)) refl
said_again (instr.ByteOrder o s dst) h = rw (one_read register (register_text dst) dst (prints_register dst h)) refl
said_again (instr.Jump offset) h = rw (one_read target (with_sign offset) (At (held_as offset)) (prints_target offset (abs_16 offset h)), in_16 offset h) refl
said_again (instr.LongJump offset) h = rw (one_read target (with_sign offset) (At (held_as offset)) (prints_target offset (abs_32 offset h)), in_32 offset h) refl
said_again (instr.Branch w c dst (source.Immediate n) offset) h =
    rw (
      three_read register operand target (register_text dst) (signed_decimal n) (with_sign offset) dst (Constant (held_as n)) (At (held_as offset))
          (prints_register dst h.0) (prints_operand_number n (abs_32 n h.1)) (prints_target offset (abs_16 offset h.2)),
      in_32 n h.1,
      in_16 offset h.2,
    ) refl
said_again (instr.Branch w c dst (source.Register src) offset) h =
    rw (
      three_read register operand target (register_text dst) (register_text src) (with_sign offset) dst (InRegister src) (At (held_as offset))
          (prints_register dst h.0) (prints_operand_register src h.1) (prints_target offset (abs_16 offset h.2)),
      in_16 offset h.2,
    ) refl
said_again (instr.CallHelper k) h = rw (one_read number (signed_decimal k) (held_as k) (prints_number k (abs_32 k h)), in_32 k h) refl
said_again (instr.CallLocal offset) h = rw (one_read target (with_sign offset) (At (held_as offset)) (prints_target offset (abs_32 offset h)), in_32 offset h) refl
said_again instr.Exit h = nothing_left
said_again (instr.Load s dst base offset) h =
    rw (two_read register place (register_text dst) (place_text base offset) dst (base, held_as offset) (prints_register dst h.0) (prints_place base offset h.1 (abs_16 offset h.2)), in_16 offset h.2) refl
said_again (instr.LoadSigned s dst base offset) h =
    rw (two_read register place (register_text dst) (place_text base offset) dst (base, held_as offset) (prints_register dst h.0) (prints_place base offset h.1 (abs_16 offset h.2)), in_16 offset h.2) refl
said_again (instr.StoreImmediate s base offset n) h =
    rw (two_read place number (place_text base offset) (signed_decimal n) (base, held_as offset) (held_as n) (prints_place base offset h.0 (abs_16 offset h.1)) (prints_number n (abs_32 n h.2)), in_16 offset h.1, in_32 n h.2) refl
said_again (instr.Store s base offset src) h =
    rw (two_read place register (place_text base offset) (register_text src) (base, held_as offset) src (prints_place base offset h.0 (abs_16 offset h.1)) (prints_register src h.2), in_16 offset h.1) refl
said_again (instr.LoadImmediate dst value) h =
    rw (two_read register number (register_text dst) (decimal value) dst (number_with_sign false value) (prints_register dst h.0) (number_of_wide value h.1), wide_back value h.1) refl

-- A label line is no instruction.

colon_fails : (m : Mnemonic) (rest : List Part) → draft m (Mark 58 ∷ rest) ≡ None
unfolding draft register magnitude_of number sign distance operand place target
colon_fails (kind.Arithmetic w o) rest = refl
colon_fails (kind.Negate w) rest = refl
colon_fails (kind.SignExtend e) rest = refl
colon_fails (kind.ByteOrder o s) rest = refl
colon_fails kind.Jump rest = refl
colon_fails kind.LongJump rest = refl
colon_fails (kind.Branch w c) rest = refl
colon_fails kind.CallHelper rest = refl
colon_fails kind.CallLocal rest = refl
colon_fails kind.Exit rest = refl
colon_fails (kind.Load s) rest = refl
colon_fails (kind.LoadSigned s) rest = refl
colon_fails (kind.StoreImmediate s) rest = refl
colon_fails (kind.Store s) rest = refl
colon_fails kind.LoadImmediate rest = refl

no_colon : (m : Mnemonic) (ps : List Part) (d : Draft) → draft m ps ≡ Some d → is_colon ps ≡ false
no_colon m [] d e = refl
no_colon m (Word w ∷ rest) d e = refl
no_colon m (Mark c ∷ rest) d e = elim (eqb_tells c 58) [
  | inl y ↦
      let is = y.1 in
      let bad : None ≡ Some d = sym (colon_fails m rest) ∙ ap (λ (x : ℕ). draft m (Mark x ∷ rest)) (sym is) ∙ e in
      absurd (let worse : None ≡ Some d = bad in cc)
  | inr n ↦ n.0
]

-- The line of an instruction.

ends_joined : (ts : List (List ℕ)) → goes_on (operand_list ts) ≡ false
unfolding goes_on is_word_character
ends_joined [] = refl
ends_joined (t ∷ ts) = refl

and_parts : (a b : Bool) → (a && b) ≡ true → (a ≡ true) × (b ≡ true)
and_parts true true e = (refl, refl)
and_parts true false e = absurd (let bad : false ≡ true = e in cc)
and_parts false b e = absurd (let bad : false ≡ true = e in cc)

all_in_word : (w : List ℕ) → all_word w ≡ true → IsWord w
all_in_word [] e = tt
all_in_word (c ∷ w) e = let both = and_parts (is_word_character c) (all_word w) e in (both.0, all_in_word w both.1)

word_text : (w : List ℕ) → is_word_text w ≡ true → IsWord w × (0 < length w)
word_text [] e = absurd (let bad : false ≡ true = e in cc)
word_text (c ∷ w) e = let both = and_parts (is_word_character c) (all_word w) e in ((both.0, all_in_word w both.1), omega arith)

statement_word : (w : List ℕ) (m : Mnemonic) (d : Draft) (rest : List Part) → mnemonic_of w ≡ Some m → draft m rest ≡ Some d → statement (Word w ∷ rest) ≡ Some (Instruction d)
unfolding statement
statement_word w m d rest e f = rw (no_colon m rest d f, e, f) refl

line_parts : (i : Instr) → parts (line_text i) ≡ Word (name_of (mnemonic i)) ∷ parts (operand_list (operand_texts i))
unfolding line_text
line_parts i =
    let name = word_text (name_of (mnemonic i)) (name_tested (mnemonic i)) in
    word_in_front (name_of (mnemonic i)) (operand_list (operand_texts i)) name.0 name.1 (ends_joined (operand_texts i))

pub line_says : (i : Instr) → IsInRange i → statement_of (line_text i) ≡ Some (Instruction (whole i))
line_says i h = ap statement (line_parts i) ∙ statement_word (name_of (mnemonic i)) (mnemonic i) (whole i) (parts (operand_list (operand_texts i))) (named_back (mnemonic i)) (said_again i h)

-- No newline in it.

newline_is_none : is_word_character 10 ≡ false
unfolding is_word_character
newline_is_none = refl

word_line : (w : List ℕ) → IsWord w → IsLine w
word_line [] h = tt
word_line (c ∷ w) h = elim (eqb_tells c 10) [
  | inl y ↦ let is = y.1 in let bad : false ≡ true = sym newline_is_none ∙ ap is_word_character (sym is) ∙ h.0 in absurd (let worse : false ≡ true = bad in cc)
  | inr n ↦ (n.0, word_line w h.1)
]

decimal_line : (n : ℕ) → n < 2 ^ 64 → IsLine (decimal n)
decimal_line n small = word_line (decimal n) (digits_in_word (decimal n) (decimal_spells n small).digits)

signed_line : (z : ℤ) → unsigned_abs z < 2 ^ 63 → IsLine (signed_decimal z)
signed_line (pos n) h = decimal_line n (omega arith)
signed_line (negsuc n) h = (refl, decimal_line (suc n) (omega arith))

sign_line : (z : ℤ) → unsigned_abs z < 2 ^ 63 → IsLine (with_sign z)
sign_line (pos n) h = (refl, decimal_line n (omega arith))
sign_line (negsuc n) h = (refl, decimal_line (suc n) (omega arith))

register_line : (r : ℕ) → r < 11 → IsLine (register_text r)
register_line r small = (refl, decimal_line r (omega arith))

place_line : (base : ℕ) (z : ℤ) → base < 11 → unsigned_abs z < 2 ^ 63 → IsLine (place_text base z)
place_line base z small h =
    (refl, is_line_append (register_text base ++ with_sign z) (93 ∷ []) (is_line_append (register_text base) (with_sign z) (register_line base small) (sign_line z h)) (refl, tt))

abbrev AreLines : List (List ℕ) → Type 0
AreLines [] = Unit {0}
AreLines (t ∷ ts) = IsLine t × AreLines ts

further_line : (ts : List (List ℕ)) → AreLines ts → IsLine (flat_map (λ y. codes ", " ++ y) ts)
further_line [] h = tt
further_line (t ∷ ts) h = is_line_append (codes ", " ++ t) (flat_map (λ y. codes ", " ++ y) ts) (refl, (refl, h.0)) (further_line ts h.1)

joined_line : (ts : List (List ℕ)) → AreLines ts → IsLine (operand_list ts)
joined_line [] h = tt
joined_line (t ∷ ts) h = (refl, is_line_append t (flat_map (λ y. codes ", " ++ y) ts) h.0 (further_line ts h.1))

operand_lines : (i : Instr) → IsInRange i → AreLines (operand_texts i)
unfolding IsInRange
operand_lines (instr.Arithmetic w o dst (source.Immediate n)) h = (register_line dst h.0, (signed_line n (abs_32 n h.1), tt))
operand_lines (instr.Arithmetic w o dst (source.Register src)) h = (register_line dst h.0, (register_line src h.1, tt))
operand_lines (instr.Negate w dst) h = (register_line dst h, tt)
operand_lines (instr.SignExtend e dst src) h = (register_line dst h.0, (register_line src h.1, tt))
operand_lines (instr.ByteOrder o s dst) h = (register_line dst h, tt)
operand_lines (instr.Jump offset) h = (sign_line offset (abs_16 offset h), tt)
operand_lines (instr.LongJump offset) h = (sign_line offset (abs_32 offset h), tt)
operand_lines (instr.Branch w c dst (source.Immediate n) offset) h = (register_line dst h.0, (signed_line n (abs_32 n h.1), (sign_line offset (abs_16 offset h.2), tt)))
operand_lines (instr.Branch w c dst (source.Register src) offset) h = (register_line dst h.0, (register_line src h.1, (sign_line offset (abs_16 offset h.2), tt)))
operand_lines (instr.CallHelper k) h = (signed_line k (abs_32 k h), tt)
operand_lines (instr.CallLocal offset) h = (sign_line offset (abs_32 offset h), tt)
operand_lines instr.Exit h = tt
operand_lines (instr.Load s dst base offset) h = (register_line dst h.0, (place_line base offset h.1 (abs_16 offset h.2), tt))
operand_lines (instr.LoadSigned s dst base offset) h = (register_line dst h.0, (place_line base offset h.1 (abs_16 offset h.2), tt))
operand_lines (instr.StoreImmediate s base offset n) h = (place_line base offset h.0 (abs_16 offset h.1), (signed_line n (abs_32 n h.2), tt))
operand_lines (instr.Store s base offset src) h = (place_line base offset h.0 (abs_16 offset h.1), (register_line src h.2, tt))
operand_lines (instr.LoadImmediate dst value) h = (register_line dst h.0, (decimal_line value h.1, tt))

pub text_line : (i : Instr) → IsInRange i → IsLine (line_text i)
unfolding line_text
text_line i h =
    let name = word_text (name_of (mnemonic i)) (name_tested (mnemonic i)) in
    is_line_append (name_of (mnemonic i)) (operand_list (operand_texts i)) (word_line (name_of (mnemonic i)) name.0) (joined_line (operand_texts i) (operand_lines i h))

-- The whole listing.

abbrev nothing : Fields → Option Instr
nothing _ = None

halves_text : (seconds : List Fields) → flat_map slot_text (map nothing seconds) ≡ []
halves_text [] = refl
halves_text (x ∷ xs) = halves_text xs

abbrev whole_line : Instr → List ℕ
whole_line i = line_text i ++ 10 ∷ []

entry_text : (i : Instr) → flat_map slot_text (entry i) ≡ whole_line i
entry_text i = ap (λ (x : List ℕ). whole_line i ++ x) (halves_text (second_of i)) ∙ append-nil (whole_line i)

listing_of : (is : List Instr) → flat_map slot_text (slots_of is) ≡ flat_map whole_line is
listing_of [] = refl
listing_of (i ∷ is) = flat_map-append slot_text (entry i) (slots_of is) ∙ rw (entry_text i, listing_of is) refl

listing_lines : (is : List Instr) → AllInRange is → lines (flat_map whole_line is) ≡ map line_text is ++ [] ∷ []
listing_lines [] h = refl
listing_lines (i ∷ is) h =
    let flat : flat_map whole_line (i ∷ is) ≡ line_text i ++ 10 ∷ flat_map whole_line is = append_assoc (line_text i) (10 ∷ []) (flat_map whole_line is) in
    ap lines flat ∙ line_split (line_text i) (flat_map whole_line is) (text_line i h.0) ∙ ap (λ (x : List (List ℕ)). line_text i ∷ x) (listing_lines is h.1)

abbrev said_of : List Instr → List Statement
said_of is = map (λ i. Instruction (whole i)) is ++ Empty ∷ []

empty_says : statement_of [] ≡ Some Empty
unfolding statement parts
empty_says = refl

lines_say : (is : List Instr) → AllInRange is → map statement_of (map line_text is ++ [] ∷ []) ≡ map Some (said_of is)
lines_say [] h = ap (λ (x : Option Statement). x ∷ []) empty_says
lines_say (i ∷ is) h = rw (line_says i h.0, lines_say is h.1) refl

no_label : (is : List Instr) (k : ℕ) (name : List ℕ) → slice_get (said_of is) k ≡ Some (Label name) → ⊥
no_label [] zero name e = let bad : Some Empty ≡ Some (Label name) = e in cc
no_label [] (suc k) name e = let bad : None ≡ Some (Label name) = e in cc
no_label (i ∷ is) zero name e = let bad : Some (Instruction (whole i)) ≡ Some (Label name) = e in cc
no_label (i ∷ is) (suc k) name e = no_label is k name e

drafts_are : (is : List Instr) → drafts_of (said_of is) ≡ map whole is
drafts_are [] = refl
drafts_are (i ∷ is) = ap (λ (x : List Draft). whole i ∷ x) (drafts_are is)

whole_placed : (at : List ℕ → Option ℕ) (slot : ℕ) (i : Instr) → instr_at at slot (whole i) ≡ Some i
unfolding instr_at
whole_placed at slot i = refl

all_whole : (at : List ℕ → Option ℕ) (slot : ℕ) (is : List Instr) → all_placed at slot (map whole is) ≡ Some is
all_whole at slot [] = refl
all_whole at slot (i ∷ is) = rw (whole_placed at slot i, all_whole at (slot + slots_in (whole i)) is) refl

pub listing_says : ListingSays
listing_says p h =
    let w = h.whole in
    let text : listing p ≡ flat_map whole_line w.instrs = ap (flat_map slot_text) w.listed ∙ listing_of w.instrs in
    record {
      said = said_of w.instrs;
      read = ap (λ (x : List ℕ). map statement_of (lines x)) text ∙ ap (map statement_of) (listing_lines w.instrs w.ranges) ∙ lines_say w.instrs w.ranges;
      once = λ i j name a b. absurd (no_label w.instrs i name a);
      instrs = w.instrs;
      placed = ap (all_placed (label_slot 0 (said_of w.instrs)) 0) (drafts_are w.instrs) ∙ all_whole (label_slot 0 (said_of w.instrs)) 0 w.instrs;
      listed = w.listed;
      count = h.count;
    }
