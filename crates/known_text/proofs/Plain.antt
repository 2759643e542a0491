-- The bytes of records: printable ASCII, and none of a choice, of sectors and of numbers is a blank.
use Rattle.std.proofs.Common.{ℕ, zero, suc, ◌≡◌, ◌+◌, ◌%◌, ◌/◌, ◌<◌, ◌==◌, ◌&&◌, nat_le, Bool, true, false, if◌then◌else◌, List, [], ◌∷◌, ◌++◌, codes, refl, ap, ◌∙◌, arith}
use Rattle.std.specs.Fmt.{decimal, digits, digits_onto, digit_glyph}
use Rattle.std.specs.List.{flat_map, list_all}
use Rattle.std.specs.Str.{IsAscii, IsUtf8}
use Rattle.std.proofs.lemmas.Bool.Decides.{nat_tests}
use Rattle.std.proofs.lemmas.List.Folds.{list_all-append}
use Rattle.std.proofs.lemmas.Str.{IsUtf8-from_ascii}
use Rattle.std.proofs.lemmas.Str.Ascii.{IsAscii-nil, IsAscii-cons}
use Rattle.epochs.specs.declared.part.By.{By}
use Rattle.epochs.specs.declared.part.By.TheVariants as by
use Rattle.epochs.specs.declared.part.Part.{Part}
use Rattle.choices.specs.declared.choice.Departure.{Departure}
use Rattle.choices.specs.declared.fate.Fate.{Fate}
use Rattle.choices.specs.declared.fate.Fate.TheVariants as fate
use Rattle.report.specs.ChoiceText.{fate_text}
use Rattle.report.specs.LineText.{part_text, departure_text, next_departure_text, choice_text}
use Rattle.report.specs.MarkReading.{lacks}
use Rattle.known.specs.declared.run.RunEnd.{RunEnd}
use Rattle.known.specs.declared.run.RunEnd.TheVariants.{Answer, Signal, OutOfTime}
use Rattle.known_text.specs.declared.looked.SectorRange.{SectorRange}
use Rattle.known_text.specs.Ranges.{range_text, next_range, ranges_text}
use Rattle.known_text.specs.Records.{RanWords, end_text, ran_text}
use Rattle.known_text.specs.Texts.{is_printed, is_graphic}

pub both_so : (a b : Bool) → (a && b) ≡ true → (a ≡ true) × (b ≡ true)
both_so true b is = (refl, is)
both_so false b is = absurd (let bad : false ≡ true = is in cc)

-- two texts that pass pass together
pub both : (p : ℕ → Bool) (xs ys : List ℕ) → list_all p xs ≡ true → list_all p ys ≡ true → list_all p (xs ++ ys) ≡ true
both p xs ys a b = list_all-append p xs ys ∙ ap (λ (t : Bool). t && list_all p ys) a ∙ b

all_of : {A : Type 0} (p : ℕ → Bool) (f : A → List ℕ) → ((x : A) → list_all p (f x) ≡ true) → (xs : List A) → list_all p (flat_map f xs) ≡ true
all_of p f own [] = refl
all_of p f own (x ∷ xs) = both p (f x) (flat_map f xs) (own x) (all_of p f own xs)

-- so does each digit
abbrev DigitsPass : (ℕ → Bool) → Type 0
DigitsPass p = (k : ℕ) → k < 10 → p (48 + k) ≡ true

glyph : (k : ℕ) → k < 10 → digit_glyph false k ≡ 48 + k
glyph k small = grind (arith, nat_tests)

first_digit : (p : ℕ → Bool) (n : ℕ) (acc : List ℕ) → DigitsPass p → list_all p acc ≡ true → list_all p (digit_glyph false (n % 10) ∷ acc) ≡ true
first_digit p n acc pass all = ap (λ (t : Bool). t && list_all p acc) (ap p (glyph (n % 10) (omega arith)) ∙ pass (n % 10) (omega arith)) ∙ all

digits_pass : (p : ℕ → Bool) (k n : ℕ) (acc : List ℕ) → DigitsPass p → list_all p acc ≡ true → list_all p (digits_onto k 10 false n acc) ≡ true
digits_pass p zero n acc pass all = all
digits_pass p (suc k) n acc pass all =
    by_end (n / 10 == 0) (first_digit p n acc pass all) (digits_pass p k (n / 10) (digit_glyph false (n % 10) ∷ acc) pass (first_digit p n acc pass all))
  where
    by_end : (t : Bool) → list_all p (digit_glyph false (n % 10) ∷ acc) ≡ true → list_all p (digits_onto k 10 false (n / 10) (digit_glyph false (n % 10) ∷ acc)) ≡ true
        → list_all p (if t then digit_glyph false (n % 10) ∷ acc else digits_onto k 10 false (n / 10) (digit_glyph false (n % 10) ∷ acc)) ≡ true
    by_end true a b = a
    by_end false a b = b

digit_graphic : DigitsPass is_graphic
digit_graphic k small = grind (arith, nat_tests, small)

pub number : (n : ℕ) → list_all is_graphic (decimal n) ≡ true
unfolding digits
number n = digits_pass is_graphic 64 n [] digit_graphic refl

-- A CHOICE

fate_graphic : (f : Fate) → list_all is_graphic (fate_text f) ≡ true
fate_graphic fate.Drop = refl
fate_graphic (fate.Head t) = both is_graphic (codes "head") (decimal t) refl (number t)
fate_graphic (fate.Tail t) = both is_graphic (codes "tail") (decimal t) refl (number t)

part_graphic : (way : By) (p : Part) → list_all is_graphic (part_text way p) ≡ true
unfolding part_text
part_graphic by.Sector p = both is_graphic (decimal p.entry ++ codes ".") (decimal p.place) (both is_graphic (decimal p.entry) (codes ".") (number p.entry) refl) (number p.place)
part_graphic by.Write p = number p.entry

departure_graphic : (way : By) (d : Departure) → list_all is_graphic (departure_text way d) ≡ true
unfolding departure_text
departure_graphic way d = both is_graphic (part_text way d.part ++ codes ":") (fate_text d.fate) (both is_graphic (part_text way d.part) (codes ":") (part_graphic way d.part) refl) (fate_graphic d.fate)

pub choice_graphic : (way : By) (ds : List Departure) → list_all is_graphic (choice_text way ds) ≡ true
unfolding choice_text
choice_graphic way [] = refl
choice_graphic way (d ∷ ds) =
    both is_graphic (departure_text way d) (flat_map (next_departure_text way) ds) (departure_graphic way d)
    (all_of is_graphic (next_departure_text way) (λ e. both is_graphic (codes ",") (departure_text way e) refl (departure_graphic way e)) ds)

-- SECTORS

range_graphic : (r : SectorRange) → list_all is_graphic (range_text r) ≡ true
unfolding range_text
range_graphic r = by_test (r.first == r.last)
  where
    by_test : (t : Bool) → list_all is_graphic (if t then decimal r.first else decimal r.first ++ codes "-" ++ decimal r.last) ≡ true
    by_test true = number r.first
    by_test false = both is_graphic (decimal r.first ++ codes "-") (decimal r.last) (both is_graphic (decimal r.first) (codes "-") (number r.first) refl) (number r.last)

pub ranges_graphic : (rs : List SectorRange) → list_all is_graphic (ranges_text rs) ≡ true
unfolding ranges_text
ranges_graphic [] = refl
ranges_graphic (r ∷ rs) =
    both is_graphic (range_text r) (flat_map next_range rs) (range_graphic r) (all_of is_graphic next_range (λ q. both is_graphic (codes ",") (range_text q) refl (range_graphic q)) rs)

-- WHAT FOLLOWS FROM THAT

all_so : (p q : ℕ → Bool) → ((b : ℕ) → p b ≡ true → q b ≡ true) → (bs : List ℕ) → list_all p bs ≡ true → list_all q bs ≡ true
all_so p q so [] all = refl
all_so p q so (b ∷ bs) all =
    let two = both_so (p b) (list_all p bs) all in
    ap (λ (t : Bool). t && list_all q bs) (so b two.0) ∙ all_so p q so bs two.1

graphic_printed : (b : ℕ) → is_graphic b ≡ true → is_printed b ≡ true
graphic_printed b is =
    let two = both_so (nat_le 33 b) (nat_le b 126) is in
    let low = two.0 in
    let high = two.1 in
    let least : nat_le 32 b ≡ true = grind (arith, nat_tests, low) in
    ap (λ (t : Bool). t && nat_le b 126) least ∙ high

pub printed : (bs : List ℕ) → list_all is_graphic bs ≡ true → list_all is_printed bs ≡ true
printed bs all = all_so is_graphic is_printed graphic_printed bs all

high_lacks : (c : ℕ) (p : ℕ → Bool) → ((b : ℕ) → p b ≡ true → (b == c) ≡ false) → (bs : List ℕ) → list_all p bs ≡ true → lacks c bs ≡ true
high_lacks c p own [] all = refl
high_lacks c p own (b ∷ bs) all =
    let two = both_so (p b) (list_all p bs) all in
    let other = own b two.0 in
    rw other (high_lacks c p own bs two.1)

printed_high : (b : ℕ) → is_printed b ≡ true → (b == 10) ≡ false
printed_high b is =
    let two = both_so (nat_le 32 b) (nat_le b 126) is in
    let low = two.0 in
    grind (arith, nat_tests, low)

graphic_high : (b : ℕ) → is_graphic b ≡ true → (b == 32) ≡ false
graphic_high b is =
    let two = both_so (nat_le 33 b) (nat_le b 126) is in
    let low = two.0 in
    grind (arith, nat_tests, low)

pub no_newline : (bs : List ℕ) → list_all is_printed bs ≡ true → lacks 10 bs ≡ true
no_newline bs all = high_lacks 10 is_printed printed_high bs all

pub no_blank : (bs : List ℕ) → list_all is_graphic bs ≡ true → lacks 32 bs ≡ true
no_blank bs all = high_lacks 32 is_graphic graphic_high bs all

pub ascii : (bs : List ℕ) → list_all is_printed bs ≡ true → IsAscii bs
ascii [] all = IsAscii-nil
ascii (b ∷ bs) all =
    let two = both_so (is_printed b) (list_all is_printed bs) all in
    let own = both_so (nat_le 32 b) (nat_le b 126) two.0 in
    let high = own.1 in
    IsAscii-cons b bs (grind (arith, nat_tests, high)) (ascii bs two.1)

pub text : (bs : List ℕ) → list_all is_printed bs ≡ true → IsUtf8 bs
text bs all = IsUtf8-from_ascii bs (ascii bs all)

-- THE LINE OF A RECORD

end_printed : (e : RunEnd) → list_all is_printed (end_text e) ≡ true
end_printed (Answer n) = both is_printed (codes "answer ") (decimal n) refl (printed (decimal n) (number n))
end_printed (Signal n) = both is_printed (codes "signal ") (decimal n) refl (printed (decimal n) (number n))
end_printed OutOfTime = refl

pub ran_printed : (w : RanWords) → list_all is_graphic w.choice ≡ true → list_all is_graphic w.looked ≡ true → list_all is_printed (ran_text w) ≡ true
unfolding ran_text
ran_printed w choice looked =
    let a : List ℕ = codes "ran cut " ++ decimal w.cut in
    let b : List ℕ = a ++ codes " choice " ++ w.choice in
    let c : List ℕ = b ++ codes " marks " ++ decimal w.marks in
    let d : List ℕ = c ++ codes " " ++ end_text w.end in
    let pa : list_all is_printed a ≡ true = both is_printed (codes "ran cut ") (decimal w.cut) refl (printed (decimal w.cut) (number w.cut)) in
    let pb : list_all is_printed b ≡ true = both is_printed (a ++ codes " choice ") w.choice (both is_printed a (codes " choice ") pa refl) (printed w.choice choice) in
    let pc : list_all is_printed c ≡ true = both is_printed (b ++ codes " marks ") (decimal w.marks) (both is_printed b (codes " marks ") pb refl) (printed (decimal w.marks) (number w.marks)) in
    let pd : list_all is_printed d ≡ true = both is_printed (c ++ codes " ") (end_text w.end) (both is_printed c (codes " ") pc refl) (end_printed w.end) in
    both is_printed (d ++ codes " looked ") w.looked (both is_printed d (codes " looked ") pd refl) (printed w.looked looked)
