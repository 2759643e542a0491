-- Failing lines, of which each byte passes a test.
use Rattle.std.proofs.Common.{ℕ, ◌≡◌, ◌∙◌, ◌+◌, ◌%◌, ◌/◌, ◌<◌, ◌==◌, ◌&&◌, suc, zero, nat_lt, Bool, true, false, not, if◌then◌else◌, List, [], ◌∷◌, ◌++◌, codes, refl, ap, arith}
use Rattle.std.specs.Fmt.{decimal, digits, digits_onto, digit_glyph}
use Rattle.std.specs.List.{flat_map, list_all}
use Rattle.std.specs.Str.{IsAscii, IsUtf8}
use Rattle.std.proofs.lemmas.Bool.Decides.{nat_tests}
use Rattle.std.proofs.lemmas.List.Folds.{list_all-append}
use Rattle.std.proofs.lemmas.Str.{IsUtf8-from_ascii}
use Rattle.std.proofs.lemmas.Str.Ascii.{IsAscii-nil, IsAscii-cons}
use Rattle.base.specs.Causes.{fault_number}
use Rattle.machine.specs.Outcome.{Ending, Verdict, Stopped, OutOfSteps, Stray}
use Rattle.epochs.specs.declared.part.By.{By}
use Rattle.epochs.specs.declared.part.By.TheVariants as by
use Rattle.epochs.specs.declared.part.Part.{Part}
use Rattle.choices.specs.declared.choice.Departure.{Departure}
use Rattle.choices.specs.declared.fate.Fate.{Fate}
use Rattle.choices.specs.declared.fate.Fate.TheVariants as fate
use Rattle.report.specs.Line.{FailingLine}
use Rattle.report.specs.MarkReading.{lacks}
use Rattle.report.specs.ChoiceText.{fate_text}
use Rattle.report.specs.LineText.{codes_text, ending_text, part_text, departure_text, next_departure_text, choice_text, line_text}

-- two texts that pass pass together
pub both : (p : ℕ → Bool) (xs ys : List ℕ) → list_all p xs ≡ true → list_all p ys ≡ true → list_all p (xs ++ ys) ≡ true
both p xs ys a b = list_all-append p xs ys ∙ ap (λ (t : Bool). t && list_all p ys) a ∙ b

all_of : {A : Type 0} (p : ℕ → Bool) (f : A → List ℕ) → ((x : A) → list_all p (f x) ≡ true) → (xs : List A) → list_all p (flat_map f xs) ≡ true
all_of p f own [] = refl
all_of p f own (x ∷ xs) = both p (f x) (flat_map f xs) (own x) (all_of p f own xs)

-- so does each digit
abbrev pub DigitsPass : (ℕ → Bool) → Type 0
DigitsPass p = (k : ℕ) → k < 10 → p (48 + k) ≡ true

glyph : (k : ℕ) → k < 10 → digit_glyph false k ≡ 48 + k
glyph k small = grind (arith, nat_tests)

first_digit : (p : ℕ → Bool) (n : ℕ) (acc : List ℕ) → DigitsPass p → list_all p acc ≡ true → list_all p (digit_glyph false (n % 10) ∷ acc) ≡ true
first_digit p n acc pass all = ap (λ (t : Bool). t && list_all p acc) (ap p (glyph (n % 10) (omega arith)) ∙ pass (n % 10) (omega arith)) ∙ all

digits_pass : (p : ℕ → Bool) (k n : ℕ) (acc : List ℕ) → DigitsPass p → list_all p acc ≡ true → list_all p (digits_onto k 10 false n acc) ≡ true
digits_pass p zero n acc pass all = all
digits_pass p (suc k) n acc pass all =
    by_end (n / 10 == 0) (first_digit p n acc pass all) (digits_pass p k (n / 10) (digit_glyph false (n % 10) ∷ acc) pass (first_digit p n acc pass all))
  where
    by_end : (t : Bool) → list_all p (digit_glyph false (n % 10) ∷ acc) ≡ true → list_all p (digits_onto k 10 false (n / 10) (digit_glyph false (n % 10) ∷ acc)) ≡ true
        → list_all p (if t then digit_glyph false (n % 10) ∷ acc else digits_onto k 10 false (n / 10) (digit_glyph false (n % 10) ∷ acc)) ≡ true
    by_end true a b = a
    by_end false a b = b

pub number : (p : ℕ → Bool) (n : ℕ) → DigitsPass p → list_all p (decimal n) ≡ true
unfolding digits
number p n pass = digits_pass p 64 n [] pass refl

-- the words of an ending pass
record WordsPass (p : ℕ → Bool) : Type 0 where
  digit : DigitsPass p
  answer : list_all p (codes "answer ") ≡ true
  numbers : list_all p (codes " codes ") ≡ true
  none : list_all p (codes "-") ≡ true
  comma : list_all p (codes ",") ≡ true
  fault : list_all p (codes "fault ") ≡ true
  slot : list_all p (codes " slot ") ≡ true
  steps : list_all p (codes "out of steps") ≡ true
  stray : list_all p (codes "stray at slot ") ≡ true

codes_pass : (p : ℕ → Bool) → WordsPass p → (ns : List ℕ) → list_all p (codes_text ns) ≡ true
unfolding codes_text
codes_pass p w [] = w.none
codes_pass p w (n ∷ ns) =
    both p (decimal n) (flat_map (λ (m : ℕ). codes "," ++ decimal m) ns) (number p n w.digit)
    (all_of p (λ (m : ℕ). codes "," ++ decimal m) (λ m. both p (codes ",") (decimal m) w.comma (number p m w.digit)) ns)

ending_pass : (p : ℕ → Bool) → WordsPass p → (e : Ending) → list_all p (ending_text e) ≡ true
ending_pass p w (Verdict answer numbers) =
    both p (codes "answer " ++ decimal answer ++ codes " codes ") (codes_text numbers)
    (both p (codes "answer " ++ decimal answer) (codes " codes ") (both p (codes "answer ") (decimal answer) w.answer (number p answer w.digit)) w.numbers) (codes_pass p w numbers)
ending_pass p w (Stopped cause slot) =
    both p (codes "fault " ++ decimal (fault_number cause) ++ codes " slot ") (decimal slot)
    (both p (codes "fault " ++ decimal (fault_number cause)) (codes " slot ") (both p (codes "fault ") (decimal (fault_number cause)) w.fault (number p (fault_number cause) w.digit)) w.slot)
    (number p slot w.digit)
ending_pass p w OutOfSteps = w.steps
ending_pass p w (Stray slot) = both p (codes "stray at slot ") (decimal slot) w.stray (number p slot w.digit)

-- an ending has no h
abbrev is_other : ℕ → Bool
is_other b = not (b == 104)

others : WordsPass is_other
others = record {
  digit = λ k lt. grind (arith, nat_tests, lt);
  answer = refl;
  numbers = refl;
  none = refl;
  comma = refl;
  fault = refl;
  slot = refl;
  steps = refl;
  stray = refl;
}

lacks_all : (bs : List ℕ) → list_all is_other bs ≡ true → lacks 104 bs ≡ true
lacks_all [] all = refl
lacks_all (b ∷ bs) all = by_test (b == 104) (lacks_all bs) all
  where
    by_test : (t : Bool) → (list_all is_other bs ≡ true → lacks 104 bs ≡ true) → (not t && list_all is_other bs) ≡ true → (if t then false else lacks 104 bs) ≡ true
    by_test true inner all = absurd (let bad : false ≡ true = all in cc)
    by_test false inner all = inner all

pub ending_lacks : (e : Ending) → lacks 104 (ending_text e) ≡ true
ending_lacks e = lacks_all (ending_text e) (ending_pass is_other others e)

-- a line is ASCII
abbrev pub is_plain : ℕ → Bool
is_plain b = nat_lt b 128

pub digit_plain : DigitsPass is_plain
digit_plain k lt = grind (arith, nat_tests, lt)

plain : WordsPass is_plain
plain = record {
  digit = digit_plain;
  answer = refl;
  numbers = refl;
  none = refl;
  comma = refl;
  fault = refl;
  slot = refl;
  steps = refl;
  stray = refl;
}

plain_number : (n : ℕ) → list_all is_plain (decimal n) ≡ true
plain_number n = number is_plain n digit_plain

plain_fate : (f : Fate) → list_all is_plain (fate_text f) ≡ true
plain_fate fate.Drop = refl
plain_fate (fate.Head t) = both is_plain (codes "head") (decimal t) refl (plain_number t)
plain_fate (fate.Tail t) = both is_plain (codes "tail") (decimal t) refl (plain_number t)

plain_part : (way : By) (p : Part) → list_all is_plain (part_text way p) ≡ true
unfolding part_text
plain_part by.Sector p = both is_plain (decimal p.entry ++ codes ".") (decimal p.place) (both is_plain (decimal p.entry) (codes ".") (plain_number p.entry) refl) (plain_number p.place)
plain_part by.Write p = plain_number p.entry

plain_departure : (way : By) (d : Departure) → list_all is_plain (departure_text way d) ≡ true
unfolding departure_text
plain_departure way d = both is_plain (part_text way d.part ++ codes ":") (fate_text d.fate) (both is_plain (part_text way d.part) (codes ":") (plain_part way d.part) refl) (plain_fate d.fate)

plain_choice : (way : By) (ds : List Departure) → list_all is_plain (choice_text way ds) ≡ true
unfolding choice_text
plain_choice way [] = refl
plain_choice way (d ∷ ds) =
    both is_plain (departure_text way d) (flat_map (next_departure_text way) ds) (plain_departure way d)
    (all_of is_plain (next_departure_text way) (λ e. both is_plain (codes ",") (departure_text way e) refl (plain_departure way e)) ds)

plain_line : (l : FailingLine) → list_all is_plain (line_text l) ≡ true
unfolding line_text
plain_line l =
    let a : List ℕ = codes "image " ++ decimal l.image in
    let b : List ℕ = a ++ codes " cut " ++ decimal l.cut in
    let c : List ℕ = b ++ codes " program " ++ decimal l.program in
    let d : List ℕ = c ++ codes " " ++ ending_text l.ending in
    let e : List ℕ = d ++ codes " choice " ++ choice_text l.by l.departures in
    let pa : list_all is_plain a ≡ true = both is_plain (codes "image ") (decimal l.image) refl (plain_number l.image) in
    let pb : list_all is_plain b ≡ true = both is_plain (a ++ codes " cut ") (decimal l.cut) (both is_plain a (codes " cut ") pa refl) (plain_number l.cut) in
    let pc : list_all is_plain c ≡ true = both is_plain (b ++ codes " program ") (decimal l.program) (both is_plain b (codes " program ") pb refl) (plain_number l.program) in
    let pd : list_all is_plain d ≡ true = both is_plain (c ++ codes " ") (ending_text l.ending) (both is_plain c (codes " ") pc refl) (ending_pass is_plain plain l.ending) in
    let pe : list_all is_plain e ≡ true =
    both is_plain (d ++ codes " choice ") (choice_text l.by l.departures) (both is_plain d (codes " choice ") pd refl) (plain_choice l.by l.departures) in
    both is_plain e (codes "\n") pe refl

pub ascii : (bs : List ℕ) → list_all is_plain bs ≡ true → IsAscii bs
ascii [] all = IsAscii-nil
ascii (b ∷ bs) all = by_test (nat_lt b 128) refl (ascii bs) all
  where
    by_test : (t : Bool) → nat_lt b 128 ≡ t → (list_all is_plain bs ≡ true → IsAscii bs) → (t && list_all is_plain bs) ≡ true → IsAscii (b ∷ bs)
    by_test true test inner all = IsAscii-cons b bs (grind (arith, nat_tests, test)) (inner all)
    by_test false test inner all = absurd (let bad : false ≡ true = all in cc)

-- so the text of lines is one
pub lines_are_text : (ls : List FailingLine) → IsUtf8 (flat_map line_text ls)
lines_are_text ls = IsUtf8-from_ascii (flat_map line_text ls) (ascii (flat_map line_text ls) (all_of is_plain line_text plain_line ls))
