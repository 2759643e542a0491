-- What a program that is given images as files ends in, read to the byte.
use Rattle.std.proofs.Common.{ℕ, ◌≡◌, ◌≢◌, ◌+◌, ◌<◌, ◌≤◌, ◌^◌, ◌==◌, ◌&&◌, ◌↔◌, nat_lt, nat_le, IsTrue, Bool, true, false, if◌then◌else◌, List, [], ◌∷◌, ◌++◌, length, length-append, get_or, codes, refl, sym, subst, ◌∙◌, ap, arith}
use Rattle.std.specs.Fmt.{decimal}
use Rattle.std.proofs.lemmas.Fmt.{decimal_injective}
use Rattle.std.proofs.lemmas.Bool.Decides.{nat_tests}
use Rattle.machine.specs.Outcome.{OutOfSteps}
use Rattle.epochs.specs.declared.part.By.{By}
use Rattle.epochs.specs.declared.part.By.TheVariants as by
use Rattle.choices.specs.declared.choice.Departure.{Departure}
use Rattle.report.specs.Line.{FailingLine}
use Rattle.report.specs.LineText.{ending_text, choice_text}
use Rattle.report.specs.ChoiceText.{departures_text}
use Rattle.report.specs.MarkReading.{lacks}
use Rattle.report.proofs.Back.{lacks_both, end_lacks}
use Rattle.losses.proofs.Plain.{ending_lacks}
use Rattle.join.specs.Given.{IsBelow, IsStatus, IsOutside, IsOutcome, out_of_time, with_status, with_signal}
use Rattle.join.proofs.Texts.{cancel}
use Rattle.join.proofs.Spans.{number_lacks}
use Rattle.join.proofs.Choosing.{prints_choices}

-- a number from 1 to below a bound
pub below_said : (word : List ℕ) (n bound : ℕ) (b : Bool) → bound < 2 ^ 64 → (n < 2 ^ 64) × (word ≡ decimal n) → b ≡ (nat_le 1 n && nat_lt n bound) → IsTrue b ↔ IsBelow bound word
below_said word n bound b fits (small, is) e = (
  λ t.
      let yes : (nat_le 1 n && nat_lt n bound) ≡ true = sym e ∙ t in
      record { number = n; some = grind (arith, nat_tests, yes); small = grind (arith, nat_tests, yes); is = is },
  λ w.
      let some = w.some in
      let less = w.small in
      let same : n ≡ w.number = decimal_injective n w.number small (omega (arith, less, fits)) (sym is ∙ w.is) in
      let yes : (nat_le 1 n && nat_lt n bound) ≡ true = grind (arith, nat_tests, some, less, same) in
      e ∙ yes,
)

pub no_number_below : (word : List ℕ) (bound : ℕ) → bound < 2 ^ 64 → ((n : ℕ) → n < 2 ^ 64 → word ≢ decimal n) → IsBelow bound word → ⊥
no_number_below word bound fits none w = let less = w.small in none w.number (omega (arith, less, fits)) w.is

-- the same bytes at the end
pub cancel_back : (zs xs ys : List ℕ) → xs ++ zs ≡ ys ++ zs → xs ≡ ys
cancel_back zs [] [] e = refl
cancel_back zs [] (y ∷ ys) e = absurd (let long = ap length e in let all = length-append (y ∷ ys) zs in omega (arith, long, all))
cancel_back zs (x ∷ xs) [] e = absurd (let long = ap length e in let all = length-append (x ∷ xs) zs in omega (arith, long, all))
cancel_back zs (x ∷ xs) (y ∷ ys) e =
    let same : x ∷ (xs ++ zs) ≡ y ∷ (ys ++ zs) = e in
    let head : x ≡ y = cc in
    let tail : xs ++ zs ≡ ys ++ zs = cc in
    let rest = cancel_back zs xs ys tail in
    rw (head, rest) refl

-- a status, by its word
pub status_by_word : (text word : List ℕ) (b : Bool) → text ≡ word ++ codes " codes -" → IsTrue b ↔ IsBelow 256 word → IsTrue b ↔ IsStatus text
status_by_word text word b is test = (
  λ t. record { word = word; status = test.0 t; is = is },
  λ s. let same : s.word ≡ word = cancel_back (codes " codes -") s.word word (sym s.is ∙ is) in test.1 (subst (λ (w : List ℕ). IsBelow 256 w) same s.status),
)

pub no_end_no_status : (text : List ℕ) → ((front : List ℕ) → text ≢ front ++ codes " codes -") → IsStatus text → ⊥
no_end_no_status text none s = none s.word s.is

-- what begins with one word doesn't begin with the other
status_no_signal : (xs ys : List ℕ) → codes "answer " ++ xs ≡ codes "signal " ++ ys → ⊥
status_no_signal xs ys e = let bad : 97 ≡ 115 = ap (λ (bs : List ℕ). get_or bs 0 0) e in omega (arith, bad)

pub outside_by_status : (text rest : List ℕ) (b : Bool) → text ≢ codes "out of time" → text ≡ codes "answer " ++ rest → IsTrue b ↔ IsStatus rest → IsTrue b ↔ IsOutside text
outside_by_status text rest b other is test = (λ t. with_status rest is (test.0 t), λ o. back o)
  where
    back : IsOutside text → IsTrue b
    back (out_of_time late) = absurd (other late)
    back (with_status more also s) = test.1 (subst (λ (bs : List ℕ). IsStatus bs) (cancel (codes "answer ") more rest (sym also ∙ is)) s)
    back (with_signal word also s) = absurd (status_no_signal rest word (sym is ∙ also))

pub outside_by_signal : (text word : List ℕ) (b : Bool) → text ≢ codes "out of time" → ((rest : List ℕ) → text ≢ codes "answer " ++ rest) → text ≡ codes "signal " ++ word → IsTrue b ↔ IsBelow 128 word
    → IsTrue b ↔ IsOutside text
outside_by_signal text word b other none is test = (λ t. with_signal word is (test.0 t), λ o. back o)
  where
    back : IsOutside text → IsTrue b
    back (out_of_time late) = absurd (other late)
    back (with_status more also s) = absurd (none more also)
    back (with_signal own also s) = test.1 (subst (λ (bs : List ℕ). IsBelow 128 bs) (cancel (codes "signal ") own word (sym also ∙ is)) s)

pub no_outside : (text : List ℕ) → text ≢ codes "out of time" → ((rest : List ℕ) → text ≢ codes "answer " ++ rest) → ((rest : List ℕ) → text ≢ codes "signal " ++ rest) → IsOutside text → ⊥
no_outside text other none lack (out_of_time late) = other late
no_outside text other none lack (with_status rest also s) = none rest also
no_outside text other none lack (with_signal word also s) = lack word also

-- what is lacked by both of two texts is lacked by each
pub both_lack : (c : ℕ) (xs ys : List ℕ) → lacks c (xs ++ ys) ≡ true → (lacks c xs ≡ true) × (lacks c ys ≡ true)
both_lack c [] ys l = (refl, l)
both_lack c (x ∷ xs) ys l = by_test (x == c) (both_lack c xs ys) l
  where
    by_test : (t : Bool) → (lacks c (xs ++ ys) ≡ true → (lacks c xs ≡ true) × (lacks c ys ≡ true)) → (if t then false else lacks c (xs ++ ys)) ≡ true
        → ((if t then false else lacks c xs) ≡ true) × (lacks c ys ≡ true)
    by_test true rest bad = absurd (let lack : false ≡ true = bad in cc)
    by_test false rest own = rest own

-- a choice has no newline
pub choice_lacks : (way : By) (ds : List Departure) → lacks 10 (departures_text way ds) ≡ true
choice_lacks way ds =
    let line : FailingLine = record { image = 0; cut = 0; program = 0; ending = OutOfSteps; by = way; departures = ds } in
    let all : lacks 10 ((ending_text OutOfSteps ++ codes " choice ") ++ choice_text way ds) ≡ true = end_lacks line in
    subst (λ (bs : List ℕ). lacks 10 bs ≡ true) (prints_choices way ds) (both_lack 10 (ending_text OutOfSteps ++ codes " choice ") (choice_text way ds) all).1

no_h : (k : ℕ) → k < 10 → ((48 + k) == 104) ≡ false
no_h k small = grind (arith, nat_tests)

-- what is said of a program has no h, and no newline
number_words : (c : ℕ) → ((k : ℕ) → k < 10 → ((48 + k) == c) ≡ false) → (bound : ℕ) (word : List ℕ) → bound ≤ 2 ^ 64 → IsBelow bound word → lacks c word ≡ true
number_words c other bound word fits w = let less = w.small in subst (λ (bs : List ℕ). lacks c bs ≡ true) (sym w.is) (number_lacks c w.number other (omega (arith, less, fits)))

outside_lacks : (c : ℕ) → ((k : ℕ) → k < 10 → ((48 + k) == c) ≡ false) → lacks c (codes "out of time") ≡ true → lacks c (codes "answer ") ≡ true → lacks c (codes " codes -") ≡ true → lacks c (codes "signal ") ≡ true
    → (text : List ℕ) → IsOutside text → lacks c text ≡ true
outside_lacks c other late answer end signal text (out_of_time is) = subst (λ (bs : List ℕ). lacks c bs ≡ true) (sym is) late
outside_lacks c other late answer end signal text (with_status rest is s) =
    let word = number_words c other 256 s.word (omega arith) s.status in
    let own : lacks c rest ≡ true = subst (λ (bs : List ℕ). lacks c bs ≡ true) (sym s.is) (lacks_both c s.word (codes " codes -") word end) in
    subst (λ (bs : List ℕ). lacks c bs ≡ true) (sym is) (lacks_both c (codes "answer ") rest answer own)
outside_lacks c other late answer end signal text (with_signal word is s) =
    subst (λ (bs : List ℕ). lacks c bs ≡ true) (sym is) (lacks_both c (codes "signal ") word signal (number_words c other 128 word (omega arith) s))

no_newline : (k : ℕ) → k < 10 → ((48 + k) == 10) ≡ false
no_newline k small = grind (arith, nat_tests)

pub outcome_lacks_h : (outside : Bool) (text : List ℕ) → IsOutcome outside text → lacks 104 text ≡ true
outcome_lacks_h false text e = subst (λ (bs : List ℕ). lacks 104 bs ≡ true) (sym e.is) (ending_lacks e.ending)
outcome_lacks_h true text o = outside_lacks 104 no_h refl refl refl refl text o

pub outcome_lacks : (outside : Bool) (text : List ℕ) → IsOutcome outside text → lacks 10 text ≡ true
outcome_lacks false text e =
    let line : FailingLine = record { image = 0; cut = 0; program = 0; ending = e.ending; by = by.Sector; departures = [] } in
    let all : lacks 10 ((ending_text e.ending ++ codes " choice ") ++ choice_text by.Sector []) ≡ true = end_lacks line in
    let front = (both_lack 10 (ending_text e.ending ++ codes " choice ") (choice_text by.Sector []) all).0 in
    subst (λ (bs : List ℕ). lacks 10 bs ≡ true) (sym e.is) (both_lack 10 (ending_text e.ending) (codes " choice ") front).0
outcome_lacks true text o = outside_lacks 10 no_newline refl refl refl refl text o
