-- Lines, read back from their text.
use Rattle.std.proofs.Common.{ℕ, ◌≡◌, ◌+◌, ◌%◌, ◌/◌, ◌<◌, ◌==◌, suc, zero, Bool, true, false, if◌then◌else◌, List, [], ◌∷◌, ◌++◌, length, get_or, append_assoc, codes, refl, arith}
use Rattle.std.specs.Fmt.{decimal, digits, digits_onto, digit_glyph}
use Rattle.std.specs.List.{flat_map}
use Rattle.std.proofs.lemmas.Bool.Decides.{nat_tests}
use Rattle.base.specs.Causes.{fault_number}
use Rattle.machine.specs.Outcome.{Ending, Verdict, Stopped, OutOfSteps, Stray}
use Rattle.epochs.specs.declared.part.By.{By}
use Rattle.epochs.specs.declared.part.By.TheVariants as by
use Rattle.epochs.specs.declared.part.Part.{Part}
use Rattle.choices.specs.declared.choice.Departure.{Departure}
use Rattle.choices.specs.declared.fate.Fate.{Fate}
use Rattle.choices.specs.declared.fate.Fate.TheVariants as fate
use Rattle.report.specs.Line.{FailingLine}
use Rattle.report.specs.MarkReading.{lacks}
use Rattle.report.specs.ChoiceText.{fate_text}
use Rattle.report.specs.LineText.{codes_text, ending_text, part_text, departure_text, next_departure_text, choice_text, line_text}

by_test : (t : Bool) (a b : Bool) → (a ≡ true → b ≡ true) → (if t then false else a) ≡ true → (if t then false else b) ≡ true
by_test true a b go e = e
by_test false a b go e = go e

-- two texts without c have none together
pub lacks_both : (c : ℕ) (xs ys : List ℕ) → lacks c xs ≡ true → lacks c ys ≡ true → lacks c (xs ++ ys) ≡ true
lacks_both c [] ys a b = b
lacks_both c (x ∷ xs) ys a b = by_test (x == c) (lacks c xs) (lacks c (xs ++ ys)) (λ e. lacks_both c xs ys e b) a

-- no digit is c
abbrev NoDigit : ℕ → Type 0
NoDigit c = (k : ℕ) → k < 10 → ((48 + k) == c) ≡ false

glyph : (k : ℕ) → k < 10 → digit_glyph false k ≡ 48 + k
glyph k small = grind (arith, nat_tests)

first_digit : (c n : ℕ) (acc : List ℕ) → NoDigit c → lacks c acc ≡ true → lacks c (digit_glyph false (n % 10) ∷ acc) ≡ true
first_digit c n acc other l = rw (glyph (n % 10) (omega arith), other (n % 10) (omega arith)) l

digits_lack : (k c n : ℕ) (acc : List ℕ) → NoDigit c → lacks c acc ≡ true → lacks c (digits_onto k 10 false n acc) ≡ true
digits_lack zero c n acc other l = l
digits_lack (suc k) c n acc other l = by_end (n / 10 == 0) (first_digit c n acc other l) (digits_lack k c (n / 10) (digit_glyph false (n % 10) ∷ acc) other (first_digit c n acc other l))
  where
    by_end : (t : Bool) → lacks c (digit_glyph false (n % 10) ∷ acc) ≡ true → lacks c (digits_onto k 10 false (n / 10) (digit_glyph false (n % 10) ∷ acc)) ≡ true
        → lacks c (if t then digit_glyph false (n % 10) ∷ acc else digits_onto k 10 false (n / 10) (digit_glyph false (n % 10) ∷ acc)) ≡ true
    by_end true a b = a
    by_end false a b = b

number_lacks : (c n : ℕ) → NoDigit c → lacks c (decimal n) ≡ true
unfolding digits
number_lacks c n other = digits_lack 64 c n [] other refl

no_blank : NoDigit 32
no_blank k small = grind (arith, nat_tests)

no_newline : NoDigit 10
no_newline k small = grind (arith, nat_tests)

pub word_lacks : (n : ℕ) → lacks 32 (decimal n) ≡ true
word_lacks n = number_lacks 32 n no_blank

digit_lacks : (n : ℕ) → lacks 10 (decimal n) ≡ true
digit_lacks n = number_lacks 10 n no_newline

all_lack : {A : Type 0} (f : A → List ℕ) → ((x : A) → lacks 10 (f x) ≡ true) → (xs : List A) → lacks 10 (flat_map f xs) ≡ true
all_lack f own [] = refl
all_lack f own (x ∷ xs) = lacks_both 10 (f x) (flat_map f xs) (own x) (all_lack f own xs)

codes_lack : (ns : List ℕ) → lacks 10 (codes_text ns) ≡ true
unfolding codes_text
codes_lack [] = refl
codes_lack (n ∷ ns) = lacks_both 10 (decimal n) (flat_map (λ (m : ℕ). codes "," ++ decimal m) ns) (digit_lacks n)
    (all_lack (λ (m : ℕ). codes "," ++ decimal m) (λ m. digit_lacks m) ns)

ending_lacks : (e : Ending) → lacks 10 (ending_text e) ≡ true
ending_lacks (Verdict answer numbers) =
    lacks_both 10 (codes "answer " ++ decimal answer ++ codes " codes ") (codes_text numbers) (lacks_both 10 (codes "answer " ++ decimal answer) (codes " codes ") (digit_lacks answer) refl) (codes_lack numbers)
ending_lacks (Stopped cause slot) =
    lacks_both 10 (codes "fault " ++ decimal (fault_number cause) ++ codes " slot ") (decimal slot) (lacks_both 10 (codes "fault " ++ decimal (fault_number cause)) (codes " slot ") (digit_lacks (fault_number cause)) refl) (digit_lacks slot)
ending_lacks OutOfSteps = refl
ending_lacks (Stray slot) = lacks_both 10 (codes "stray at slot ") (decimal slot) refl (digit_lacks slot)

fate_lacks : (f : Fate) → lacks 10 (fate_text f) ≡ true
fate_lacks fate.Drop = refl
fate_lacks (fate.Head t) = digit_lacks t
fate_lacks (fate.Tail t) = digit_lacks t

part_lacks : (way : By) (p : Part) → lacks 10 (part_text way p) ≡ true
unfolding part_text
part_lacks by.Sector p = lacks_both 10 (decimal p.entry ++ codes ".") (decimal p.place) (lacks_both 10 (decimal p.entry) (codes ".") (digit_lacks p.entry) refl) (digit_lacks p.place)
part_lacks by.Write p = digit_lacks p.entry

departure_lacks : (way : By) (d : Departure) → lacks 10 (departure_text way d) ≡ true
unfolding departure_text
departure_lacks way d = lacks_both 10 (part_text way d.part ++ codes ":") (fate_text d.fate) (lacks_both 10 (part_text way d.part) (codes ":") (part_lacks way d.part) refl) (fate_lacks d.fate)

choice_lacks : (way : By) (ds : List Departure) → lacks 10 (choice_text way ds) ≡ true
unfolding choice_text
choice_lacks way [] = refl
choice_lacks way (d ∷ ds) = lacks_both 10 (departure_text way d) (flat_map (next_departure_text way) ds) (departure_lacks way d)
    (all_lack (next_departure_text way) (λ e. departure_lacks way e) ds)

-- what a line has after its program
abbrev pub end_of : FailingLine → List ℕ
end_of l = ending_text l.ending ++ codes " choice " ++ choice_text l.by l.departures

pub end_lacks : (l : FailingLine) → lacks 10 (end_of l) ≡ true
end_lacks l = lacks_both 10 (ending_text l.ending ++ codes " choice ") (choice_text l.by l.departures)
    (lacks_both 10 (ending_text l.ending) (codes " choice ") (ending_lacks l.ending) refl) (choice_lacks l.by l.departures)

-- a line's text, by its words
pub words_of : (l : FailingLine) (more : List ℕ)
    → line_text l ++ more ≡ codes "image" ++ 32 ∷ (decimal l.image ++ 32 ∷ (codes "cut" ++ 32 ∷ (decimal l.cut ++ 32 ∷ (codes "program" ++ 32 ∷ (decimal l.program ++ 32 ∷ (end_of l ++ 10 ∷ more))))))
unfolding line_text
words_of l more = simp append_assoc

-- no byte of a text is c, by its place
pub lacks_at : (c : ℕ) (xs : List ℕ) → lacks c xs ≡ true → (i : ℕ) → i < length xs → get_or xs i 0 ≡ c → ⊥
lacks_at c [] l i small e = omega (arith, small)
lacks_at c (x ∷ xs) l zero small e = first (x == c) refl l
  where
    first : (t : Bool) → (x == c) ≡ t → (if t then false else lacks c xs) ≡ true → ⊥
    first true same bad = cc
    first false other l = grind (arith, nat_tests)
lacks_at c (x ∷ xs) l (suc i) small e = lacks_at c xs (rest (x == c) l) i (omega (arith, small)) e
  where
    rest : (t : Bool) → (if t then false else lacks c xs) ≡ true → lacks c xs ≡ true
    rest true bad = absurd cc
    rest false l = l
