-- What a line has after its program, read to the byte.
use Rattle.std.proofs.Common.{ℕ, zero, suc, ◌≡◌, ◌≢◌, ◌+◌, ◌-◌, ◌<◌, ◌≤◌, ◌^◌, ◌==◌, nat_lt, ◌⊎◌, ◌↔◌, inl, inr, Bool, true, false, not, IsTrue, leb, List, [], ◌∷◌, ◌++◌, All, length, get_or, append_assoc, append-nil, codes, Result, Ok, Err, refl, sym, subst, ◌∙◌, ap, arith}
use Rattle.std.specs.Fmt.{decimal}
use Rattle.std.specs.List.{flat_map}
use Rattle.std.specs.Str.Parse.{AllDigits, digits_value, ParsesUnsigned}
use Rattle.std.proofs.lemmas.Str.Parse.{IsNumeralModel, numerals_by_value, tells_digits, parse_plain, not_in_digits}
use Rattle.std.proofs.lemmas.Fmt.{parse-decimal, decimal_nonempty, first_decimal, decimal_digit, digits_decimal, decimal-digits_value, decimal_injective}
use Rattle.std.proofs.lemmas.Bool.{leb-true, le-leb}
use Rattle.std.proofs.lemmas.Bool.Decides.{nat_tests}
use Rattle.base.specs.Causes.{fault_number}
use Rattle.base.specs.declared.causes.MachineFault.{MachineFault}
use Rattle.base.specs.declared.causes.MachineFault.TheVariants as fault
use Rattle.machine.specs.Outcome.{Ending, Verdict, Stopped, OutOfSteps, Stray, fails as failing_end}
use Rattle.report.specs.MarkReading.{lacks}
use Rattle.report.specs.LineText.{codes_text, ending_text}
use Rattle.join.specs.Printable.{IsWithin}
use Rattle.join.specs.Reading.{IsCut, NoCut}
use Rattle.join.specs.Endings.{IsPlain, IsNumber, IsAnswer, IsFaultNumber, numbers_text, AreNumbers, AreCodes, IsVerdict, IsFault, IsEnding}
use Rattle.join.proofs.Texts.{one_cut, has_it, cancel}
use Rattle.join.proofs.Spans.{number_lacks, blank_lacks}

own : IsNumeralModel (AllDigits 10) (digits_value 10)
own = numerals_by_value (AllDigits 10) tells_digits

-- the word of a number is plain
pub decimal_plain : (n : ℕ) → n < 2 ^ 64 → IsPlain (decimal n)
decimal_plain n small = record {
  some = decimal_nonempty n small;
  sign = not_in_digits own (decimal n) 43 (digits_decimal own n small) (λ range. let low = range.0 in omega (arith, low)) 0 (decimal_nonempty n small);
  zeros = by_zero n small;
}
  where
    by_zero : (n : ℕ) → n < 2 ^ 64 → get_or (decimal n) 0 0 ≡ 48 → length (decimal n) ≡ 1
    by_zero zero small first = ap length (decimal_digit 0 (omega arith))
    by_zero (suc k) small first = absurd (let above = first_decimal (suc k) (omega arith) small in omega (arith, above, first))

pub not_plain : (word : List ℕ) → (IsPlain word → ⊥) → (n : ℕ) → n < 2 ^ 64 → word ≢ decimal n
not_plain word lack n small e = lack (rw e (decimal_plain n small))

pub plain_number : (word : List ℕ) (n : ℕ) → IsPlain word → ParsesUnsigned {E = ℕ} 64 10 word (Ok n) → (n < 2 ^ 64) × (word ≡ decimal n)
plain_number word n plain parsed =
    let (digits, value) = parse_plain own {E = ℕ} 64 word (Ok n) parsed plain.sign in
    let small = digits.2 in
    (rw value small, sym (decimal-digits_value own word digits.0 digits.1 plain.zeros small) ∙ ap decimal (sym value))

pub no_number : (word : List ℕ) → ParsesUnsigned {E = ℕ} 64 10 word (Err 0) → (n : ℕ) → n < 2 ^ 64 → word ≢ decimal n
no_number word parsed n small is = let bad : ◌≡◌ {A = Result ℕ ℕ} (Err 0) (Ok n) = parse-decimal {E = ℕ} 64 n word (Err 0) small (omega (arith, small)) is parsed in cc

-- no number has a comma
no_comma : (k : ℕ) → k < 10 → ((48 + k) == 44) ≡ false
no_comma k small = grind (arith, nat_tests)

comma_lacks : (n : ℕ) → n < 2 ^ 64 → lacks 44 (decimal n) ≡ true
comma_lacks n small = number_lacks 44 n no_comma small

-- what a test says
pub holds : {P : Type 0} → IsTrue true ↔ P → P
holds test = test.0 refl

pub fails : {P : Type 0} (b : Bool) → b ≡ false → IsTrue b ↔ P → P → ⊥
fails b lack test p = let own : b ≡ true = test.1 p in let bad : false ≡ true = sym lack ∙ own in cc

-- a test of two facts, of which the second is tested where the first holds
pub both_hold : {P Q R : Type 0} (b : Bool) → P → IsTrue b ↔ Q → (P → Q → R) → (R → Q) → IsTrue b ↔ R
both_hold b p test together second = (λ e. together p (test.0 e), λ r. test.1 (second r))

pub never : {R : Type 0} → (R → ⊥) → IsTrue false ↔ R
never lack = (λ e. absurd (let bad : false ≡ true = e in cc), λ r. absurd (lack r))

pub unlike : {R : Type 0} (b : Bool) → b ≡ false → (R → ⊥) → IsTrue b ↔ R
unlike b lack none = (λ e. absurd (let bad : false ≡ true = sym lack ∙ e in cc), λ r. absurd (none r))

pub always : {R : Type 0} (b : Bool) → b ≡ true → R → IsTrue b ↔ R
always b is r = (λ e. r, λ r. is)

pub like : {P R : Type 0} (b : Bool) → IsTrue b ↔ P → (P → R) → (R → P) → IsTrue b ↔ R
like b test to back = (λ e. to (test.0 e), λ r. test.1 (back r))

-- one number, or one and more after a comma
pub none_left : (left : ℕ) (text : List ℕ) → left ≡ 0 → AreNumbers left text → ⊥
none_left left text none are = let few = are.few in omega (arith, few, none)

pub last_number : (left : ℕ) (text : List ℕ) → 0 < left → IsNumber text → AreNumbers left text
last_number left text some is = record { first = is.number; more = []; few = omega (arith, some); small = is.small; within = λ k d l. absurd (omega (arith, l)); is = is.is }

pub no_more_numbers : (left : ℕ) (text : List ℕ) → NoCut 44 text → AreNumbers left text → IsNumber text
no_more_numbers left text lack are = by_more are.more are.is
  where
    by_more : (ms : List ℕ) → text ≡ numbers_text are.first ms → IsNumber text
    by_more [] is = record { number = are.first; small = are.small; is = is }
    by_more (m ∷ ms) is = absurd (has_it 44 (decimal are.first) (numbers_text m ms) (rw is at lack.none))

pub more_numbers : (left : ℕ) (text word more : List ℕ) → IsCut 44 text word more → IsNumber word → AreNumbers (left - 1) more → 0 < left → AreNumbers left text
more_numbers left text word more cut own are some = record {
  first = own.number;
  more = are.first ∷ are.more;
  few = let few = are.few in omega (arith, few, some);
  small = own.small;
  within = each;
  is = cut.is ∙ (let a = own.is in let b = are.is in rw (a, b) refl);
}
  where
    each : (k : ℕ) (d : ℕ) → k < length (are.first ∷ are.more) → get_or (are.first ∷ are.more) k d < 2 ^ 64
    each zero d l = are.small
    each (suc k) d l = are.within k d (omega (arith, l))

pub first_of_numbers : (left : ℕ) (text word more : List ℕ) → IsCut 44 text word more → AreNumbers left text → IsNumber word × AreNumbers (left - 1) more
first_of_numbers left text word more cut are = by_more are.more are.within are.few are.is
  where
    by_more : (ms : List ℕ) → All (λ n. n < 2 ^ 64) ms → length ms + 1 ≤ left → text ≡ numbers_text are.first ms → IsNumber word × AreNumbers (left - 1) more
    by_more [] within few is = absurd (has_it 44 word more (rw (sym is ∙ cut.is) at (comma_lacks are.first are.small)))
    by_more (m ∷ ms) within few is =
        let parts = one_cut 44 word (decimal are.first) more (numbers_text m ms) cut.first (comma_lacks are.first are.small) (sym cut.is ∙ is) in (
          record { number = are.first; small = are.small; is = parts.0 },
          record {
            first = m;
            more = ms;
            few = omega (arith, few);
            small = within 0 m (omega arith);
            within = λ k d l. within (suc k) d (omega (arith, l));
            is = parts.1;
          },
        )

-- the number of a fault is one of nine
pub fault_within : (f : MachineFault) → (80 ≤ fault_number f) × (fault_number f ≤ 88)
fault_within fault.NoInstruction = (omega arith, omega arith)
fault_within fault.UnsetRegister = (omega arith, omega arith)
fault_within fault.UnsetByte = (omega arith, omega arith)
fault_within fault.Unmapped = (omega arith, omega arith)
fault_within fault.ReadOnly = (omega arith, omega arith)
fault_within fault.UnknownHelper = (omega arith, omega arith)
fault_within fault.HelperArgument = (omega arith, omega arith)
fault_within fault.FrameLimit = (omega arith, omega arith)
fault_within fault.FramePointer = (omega arith, omega arith)

abbrev FaultOf : ℕ → Type 0
FaultOf n = (f : MachineFault) × (fault_number f ≡ n)

fault_of : (k : ℕ) → k < 9 → FaultOf (80 + k)
fault_of zero small = (fault.NoInstruction, refl)
fault_of (suc zero) small = (fault.UnsetRegister, refl)
fault_of (suc (suc zero)) small = (fault.UnsetByte, refl)
fault_of (suc (suc (suc zero))) small = (fault.Unmapped, refl)
fault_of (suc (suc (suc (suc zero)))) small = (fault.ReadOnly, refl)
fault_of (suc (suc (suc (suc (suc zero))))) small = (fault.UnknownHelper, refl)
fault_of (suc (suc (suc (suc (suc (suc zero)))))) small = (fault.HelperArgument, refl)
fault_of (suc (suc (suc (suc (suc (suc (suc zero))))))) small = (fault.FrameLimit, refl)
fault_of (suc (suc (suc (suc (suc (suc (suc (suc zero)))))))) small = (fault.FramePointer, refl)
fault_of (suc (suc (suc (suc (suc (suc (suc (suc (suc k))))))))) small = absurd (omega (arith, small))

pub fault_found : (word : List ℕ) (n : ℕ) → word ≡ decimal n → 80 ≤ n → n ≤ 88 → IsFaultNumber word
fault_found word n is low high =
    let e : 80 + (n - 80) ≡ n = omega (arith, low) in
    let found : FaultOf n = subst (λ (m : ℕ). FaultOf m) e (fault_of (n - 80) (omega (arith, low, high))) in
    record { fault = found.0; is = is ∙ ap decimal (sym found.1) }

-- a fault's number is the one that its word says
pub fault_said : (word : List ℕ) (n : ℕ) → n < 2 ^ 64 → word ≡ decimal n → IsFaultNumber word → (80 ≤ n) × (n ≤ 88)
fault_said word n small is f =
    let within = fault_within f.fault in
    let low = within.0 in
    let high = within.1 in
    let same : n ≡ fault_number f.fault = decimal_injective n (fault_number f.fault) small (omega (arith, high)) (sym is ∙ f.is) in
    (omega (arith, low, same), omega (arith, high, same))

pub fault_high : (word : List ℕ) (n : ℕ) → (n < 2 ^ 64) × (word ≡ decimal n) → 80 ≤ n → IsTrue (leb n 88) ↔ IsFaultNumber word
fault_high word n (small, is) low = (λ t. fault_found word n is low (leb-true n 88 t), λ f. le-leb n 88 (fault_said word n small is f).1)

pub fault_low : (word : List ℕ) (n : ℕ) → (n < 2 ^ 64) × (word ≡ decimal n) → n < 80 → IsTrue (leb 80 n) ↔ IsFaultNumber word
fault_low word n (small, is) low = (λ t. absurd (let high = leb-true 80 n t in omega (arith, low, high)), λ f. le-leb 80 n (fault_said word n small is f).0)

pub no_fault : (word : List ℕ) → ((n : ℕ) → n < 2 ^ 64 → word ≢ decimal n) → IsFaultNumber word → ⊥
no_fault word none f = let high = (fault_within f.fault).1 in none (fault_number f.fault) (omega (arith, high)) f.is

-- an answer that isn't 0
pub no_answer : (word : List ℕ) → ((n : ℕ) → n < 2 ^ 64 → word ≢ decimal n) → IsAnswer word → ⊥
no_answer word none a = none a.number a.small a.is

pub answer_said : (word : List ℕ) (n : ℕ) → (n < 2 ^ 64) × (word ≡ decimal n) → IsTrue (nat_lt 0 n) ↔ IsAnswer word
answer_said word n (small, is) = (
  λ test. let yes : nat_lt 0 n ≡ true = test in record { number = n; small = small; some = grind (arith, nat_tests, yes); is = is },
  λ a.
      let some = a.some in
      let same : n ≡ a.number = decimal_injective n a.number small a.small (sym is ∙ a.is) in
      let yes : nat_lt 0 n ≡ true = grind (arith, nat_tests, some, same) in
      yes,
)

-- codes
pub hyphen_codes : (text : List ℕ) → text ≡ codes "-" → AreCodes text
unfolding codes_text
hyphen_codes text is = record { numbers = []; few = omega arith; within = λ k d l. absurd (omega (arith, l)); is = is }

next_numbers : (n : ℕ) (ms : List ℕ) → decimal n ++ flat_map (λ (m : ℕ). codes "," ++ decimal m) ms ≡ numbers_text n ms
next_numbers n [] = append-nil (decimal n)
next_numbers n (m ∷ ms) = ap (λ (bs : List ℕ). decimal n ++ 44 ∷ bs) (next_numbers m ms)

codes_are : (n : ℕ) (ms : List ℕ) → codes_text (n ∷ ms) ≡ numbers_text n ms
unfolding codes_text
codes_are n ms = next_numbers n ms

pub some_codes : (text : List ℕ) → AreNumbers 16 text → AreCodes text
some_codes text are = record {
  numbers = are.first ∷ are.more;
  few = let few = are.few in omega (arith, few);
  within = each;
  is = are.is ∙ sym (codes_are are.first are.more);
}
  where
    each : (k : ℕ) (d : ℕ) → k < length (are.first ∷ are.more) → get_or (are.first ∷ are.more) k d < 2 ^ 64
    each zero d l = are.small
    each (suc k) d l = are.within k d (omega (arith, l))

pub codes_said : (text : List ℕ) → AreCodes text → (text ≡ codes "-") ⊎ AreNumbers 16 text
unfolding codes_text
codes_said text are = by_numbers are.numbers are.few are.within are.is
  where
    by_numbers : (ns : List ℕ) → length ns ≤ 16 → All (λ n. n < 2 ^ 64) ns → text ≡ codes_text ns → (text ≡ codes "-") ⊎ AreNumbers 16 text
    by_numbers [] few within is = inl is
    by_numbers (n ∷ ns) few within is = inr (record { first = n; more = ns; few = omega (arith, few); small = within 0 n (omega arith); within = λ k d l. within (suc k) d (omega (arith, l)); is = is ∙ next_numbers n ns })

-- a verdict after `answer `
verdict_words : (a : ℕ) (said : List ℕ) → decimal a ++ codes " codes " ++ said ≡ decimal a ++ 32 ∷ (codes "codes " ++ said)
verdict_words a said = append_assoc (decimal a) (codes " codes ") said

pub verdict_parts : (text answer more : List ℕ) → IsCut 32 text answer more → (v : IsVerdict text) → (answer ≡ decimal v.answer) × (more ≡ codes "codes " ++ v.codes_said)
verdict_parts text answer more cut v =
    one_cut 32 answer (decimal v.answer) more (codes "codes " ++ v.codes_said) cut.first (blank_lacks v.answer v.small) (sym cut.is ∙ v.is ∙ verdict_words v.answer v.codes_said)

pub no_verdict : (text : List ℕ) → NoCut 32 text → IsVerdict text → ⊥
no_verdict text none v = has_it 32 (decimal v.answer) (codes "codes " ++ v.codes_said) (subst (λ (bs : List ℕ). lacks 32 bs ≡ true) (v.is ∙ verdict_words v.answer v.codes_said) none.none)

pub verdict_answer : (text answer more : List ℕ) → IsCut 32 text answer more → IsVerdict text → IsAnswer answer
verdict_answer text answer more cut v = record { number = v.answer; small = v.small; some = v.some; is = (verdict_parts text answer more cut v).0 }

pub verdict_codes : (text answer more said : List ℕ) → IsCut 32 text answer more → more ≡ codes "codes " ++ said → IsVerdict text → AreCodes said
verdict_codes text answer more said cut parts v =
    let same : said ≡ v.codes_said = cancel (codes "codes ") said v.codes_said (sym parts ∙ (verdict_parts text answer more cut v).1) in
    subst (λ (bs : List ℕ). AreCodes bs) (sym same) v.codes_are

pub no_codes : (text answer more : List ℕ) → IsCut 32 text answer more → ((rest : List ℕ) → more ≢ codes "codes " ++ rest) → IsVerdict text → ⊥
no_codes text answer more cut none v = none v.codes_said (verdict_parts text answer more cut v).1

pub verdict_found : (text answer more said : List ℕ) → IsCut 32 text answer more → more ≡ codes "codes " ++ said → IsAnswer answer → AreCodes said → IsVerdict text
verdict_found text answer more said cut parts number are = record {
  answer = number.number;
  small = number.small;
  some = number.some;
  codes_said = said;
  codes_are = are;
  is = cut.is ∙ (let a = number.is in rw (a, parts) (sym (verdict_words number.number said)));
}

-- a fault after `fault `
fault_words : (n slot : ℕ) → decimal n ++ codes " slot " ++ decimal slot ≡ decimal n ++ 32 ∷ (codes "slot " ++ decimal slot)
fault_words n slot = append_assoc (decimal n) (codes " slot ") (decimal slot)

small_fault : (f : MachineFault) → fault_number f < 2 ^ 64
small_fault f = let high = (fault_within f).1 in omega (arith, high)

pub fault_parts : (text word more : List ℕ) → IsCut 32 text word more → (f : IsFault text) → (word ≡ decimal (fault_number f.fault)) × (more ≡ codes "slot " ++ decimal f.slot)
fault_parts text word more cut f =
    one_cut 32 word (decimal (fault_number f.fault)) more (codes "slot " ++ decimal f.slot) cut.first (blank_lacks (fault_number f.fault) (small_fault f.fault))
    (sym cut.is ∙ f.is ∙ fault_words (fault_number f.fault) f.slot)

pub no_fault_text : (text : List ℕ) → NoCut 32 text → IsFault text → ⊥
no_fault_text text none f =
    has_it 32 (decimal (fault_number f.fault)) (codes "slot " ++ decimal f.slot) (subst (λ (bs : List ℕ). lacks 32 bs ≡ true) (f.is ∙ fault_words (fault_number f.fault) f.slot) none.none)

pub fault_word : (text word more : List ℕ) → IsCut 32 text word more → IsFault text → IsFaultNumber word
fault_word text word more cut f = record { fault = f.fault; is = (fault_parts text word more cut f).0 }

pub fault_slot : (text word more slot : List ℕ) → IsCut 32 text word more → more ≡ codes "slot " ++ slot → IsFault text → IsNumber slot
fault_slot text word more slot cut parts f = record {
  number = f.slot;
  small = f.small;
  is = cancel (codes "slot ") slot (decimal f.slot) (sym parts ∙ (fault_parts text word more cut f).1);
}

pub no_slot : (text word more : List ℕ) → IsCut 32 text word more → ((rest : List ℕ) → more ≢ codes "slot " ++ rest) → IsFault text → ⊥
no_slot text word more cut none f = none (decimal f.slot) (fault_parts text word more cut f).1

pub fault_text_found : (text word more slot : List ℕ) → IsCut 32 text word more → more ≡ codes "slot " ++ slot → IsFaultNumber word → IsNumber slot → IsFault text
fault_text_found text word more slot cut parts number at = record {
  fault = number.fault;
  slot = at.number;
  small = at.small;
  is = cut.is ∙ (let a = number.is in let b = at.is in rw (a, parts, b) (sym (fault_words (fault_number number.fault) at.number)));
}

-- what a program ended in
pub verdict_is_ending : (text said : List ℕ) → text ≡ codes "answer " ++ said → IsVerdict said → IsEnding text
verdict_is_ending text said parts v =
    let are = v.codes_are in
    let some = v.some in
    let other : (v.answer == 0) ≡ false = grind (arith, nat_tests, some) in
    record {
      ending = Verdict v.answer are.numbers;
      within = (v.small, are.few, are.within);
      failing = rw other refl;
      is = parts ∙ (let a = v.is in let b = are.is in rw (a, b) (simp append_assoc));
    }

pub fault_is_ending : (text said : List ℕ) → text ≡ codes "fault " ++ said → IsFault said → IsEnding text
fault_is_ending text said parts f = record { ending = Stopped f.fault f.slot; within = f.small; failing = refl; is = parts ∙ (let a = f.is in rw a (simp append_assoc)) }

pub steps_are_ending : (text : List ℕ) → text ≡ codes "out of steps" → IsEnding text
steps_are_ending text is = record { ending = OutOfSteps; within = tt; failing = refl; is = is }

pub stray_is_ending : (text said : List ℕ) → text ≡ codes "stray at slot " ++ said → IsNumber said → IsEnding text
stray_is_ending text said parts n = record { ending = Stray n.number; within = n.small; failing = refl; is = parts ∙ ap (λ (bs : List ℕ). codes "stray at slot " ++ bs) n.is }

-- which of the four an ending is
pub data EndingOf (text : List ℕ) : Type 0 where
  of_verdict : (said : List ℕ) → text ≡ codes "answer " ++ said → IsVerdict said → EndingOf text
  of_fault : (said : List ℕ) → text ≡ codes "fault " ++ said → IsFault said → EndingOf text
  of_steps : text ≡ codes "out of steps" → EndingOf text
  of_stray : (said : List ℕ) → text ≡ codes "stray at slot " ++ said → IsNumber said → EndingOf text

pub ending_of : (text : List ℕ) → IsEnding text → EndingOf text
ending_of text e = by_ending e.ending e.within e.failing e.is
  where
    some_answer : (a : ℕ) → not (a == 0) ≡ true → 0 < a
    some_answer zero failing = absurd (let bad : false ≡ true = failing in cc)
    some_answer (suc a) failing = omega arith

    by_ending : (x : Ending) → IsWithin x → failing_end x ≡ true → text ≡ ending_text x → EndingOf text
    by_ending (Verdict a ns) (small, few, within) failing is =
        of_verdict (decimal a ++ codes " codes " ++ codes_text ns) (is ∙ simp append_assoc)
        (record { answer = a; small = small; some = some_answer a failing; codes_said = codes_text ns; codes_are = record { numbers = ns; few = few; within = within; is = refl }; is = refl })
    by_ending (Stopped f slot) small failing is = of_fault (decimal (fault_number f) ++ codes " slot " ++ decimal slot) (is ∙ simp append_assoc) (record { fault = f; slot = slot; small = small; is = refl })
    by_ending OutOfSteps small failing is = of_steps is
    by_ending (Stray slot) small failing is = of_stray (decimal slot) is (record { number = slot; small = small; is = refl })

first_byte : (text xs ys : List ℕ) → text ≡ xs → text ≡ ys → get_or xs 0 0 ≡ get_or ys 0 0
first_byte text xs ys one two = ap (λ (bs : List ℕ). get_or bs 0 0) (sym one ∙ two)

-- of a text that begins with `answer `, with `fault ` or with `stray at slot `
pub ending_is_verdict : (text said : List ℕ) → text ≡ codes "answer " ++ said → IsEnding text → IsVerdict said
ending_is_verdict text said parts e = by_kind (ending_of text e)
  where
    by_kind : EndingOf text → IsVerdict said
    by_kind (of_verdict own is v) = let same : said ≡ own = cancel (codes "answer ") said own (sym parts ∙ is) in subst (λ (bs : List ℕ). IsVerdict bs) (sym same) v
    by_kind (of_fault own is f) = absurd (let bad : 97 ≡ 102 = first_byte text (codes "answer " ++ said) (codes "fault " ++ own) parts is in omega (arith, bad))
    by_kind (of_steps is) = absurd (let bad : 97 ≡ 111 = first_byte text (codes "answer " ++ said) (codes "out of steps") parts is in omega (arith, bad))
    by_kind (of_stray own is n) = absurd (let bad : 97 ≡ 115 = first_byte text (codes "answer " ++ said) (codes "stray at slot " ++ own) parts is in omega (arith, bad))

pub ending_is_fault : (text said : List ℕ) → text ≡ codes "fault " ++ said → IsEnding text → IsFault said
ending_is_fault text said parts e = by_kind (ending_of text e)
  where
    by_kind : EndingOf text → IsFault said
    by_kind (of_fault own is f) = let same : said ≡ own = cancel (codes "fault ") said own (sym parts ∙ is) in subst (λ (bs : List ℕ). IsFault bs) (sym same) f
    by_kind (of_verdict own is v) = absurd (let bad : 102 ≡ 97 = first_byte text (codes "fault " ++ said) (codes "answer " ++ own) parts is in omega (arith, bad))
    by_kind (of_steps is) = absurd (let bad : 102 ≡ 111 = first_byte text (codes "fault " ++ said) (codes "out of steps") parts is in omega (arith, bad))
    by_kind (of_stray own is n) = absurd (let bad : 102 ≡ 115 = first_byte text (codes "fault " ++ said) (codes "stray at slot " ++ own) parts is in omega (arith, bad))

pub ending_is_stray : (text said : List ℕ) → text ≡ codes "stray at slot " ++ said → IsEnding text → IsNumber said
ending_is_stray text said parts e = by_kind (ending_of text e)
  where
    by_kind : EndingOf text → IsNumber said
    by_kind (of_stray own is n) = let same : said ≡ own = cancel (codes "stray at slot ") said own (sym parts ∙ is) in subst (λ (bs : List ℕ). IsNumber bs) (sym same) n
    by_kind (of_verdict own is v) = absurd (let bad : 115 ≡ 97 = first_byte text (codes "stray at slot " ++ said) (codes "answer " ++ own) parts is in omega (arith, bad))
    by_kind (of_fault own is f) = absurd (let bad : 115 ≡ 102 = first_byte text (codes "stray at slot " ++ said) (codes "fault " ++ own) parts is in omega (arith, bad))
    by_kind (of_steps is) = absurd (let bad : 115 ≡ 111 = first_byte text (codes "stray at slot " ++ said) (codes "out of steps") parts is in omega (arith, bad))

pub no_ending : (text : List ℕ) → (text ≡ codes "out of steps" → ⊥) → ((rest : List ℕ) → text ≢ codes "answer " ++ rest) → ((rest : List ℕ) → text ≢ codes "fault " ++ rest)
    → ((rest : List ℕ) → text ≢ codes "stray at slot " ++ rest) → IsEnding text → ⊥
no_ending text steps answer word stray e = by_kind (ending_of text e)
  where
    by_kind : EndingOf text → ⊥
    by_kind (of_verdict own is v) = answer own is
    by_kind (of_fault own is f) = word own is
    by_kind (of_steps is) = steps is
    by_kind (of_stray own is n) = stray own is
