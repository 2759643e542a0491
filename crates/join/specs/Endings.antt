-- What a line has after its program, piece by piece.
use Rattle.std.specs.Prelude.{ℕ, ◌+◌, ◌≡◌, ◌≢◌, ◌<◌, ◌≤◌, ◌^◌, true, List, [], ◌∷◌, ◌++◌, All, length, get_or, map, codes}
use Rattle.std.specs.Fmt.{decimal}
use Rattle.base.specs.Causes.{fault_number}
use Rattle.base.specs.declared.causes.MachineFault.{MachineFault}
use Rattle.machine.specs.Outcome.{Ending, fails}
use Rattle.epochs.specs.declared.part.By.{By}
use Rattle.choices.specs.declared.name.Name.{Name}
use Rattle.choices.specs.declared.choice.Departure.{Departure}
use Rattle.choices.specs.Named.{name_of}
use Rattle.report.specs.ChoiceText.{AreNames, IsName}
use Rattle.report.specs.MarkReading.{lacks}
use Rattle.report.specs.LineText.{codes_text, ending_text, choice_text}
use Rattle.report.specs.Report.{HeadValue}
use Rattle.join.specs.Printable.{IsWithin, are_names_of_run}

-- a word can be that of a number
pub record IsPlain (word : List ℕ) : Type 0 where
  pub some : 0 < length word
  pub sign : get_or word 0 0 ≢ 43
  pub zeros : get_or word 0 0 ≡ 48 → length word ≡ 1

pub record IsNumber (word : List ℕ) : Type 0 where
  pub number : ℕ
  pub small : number < 2 ^ 64
  pub is : word ≡ decimal number

pub record IsFaultNumber (word : List ℕ) : Type 0 where
  pub fault : MachineFault
  pub is : word ≡ decimal (fault_number fault)

-- numbers with commas between, one at least
abbrev pub numbers_text : ℕ → List ℕ → List ℕ
numbers_text n [] = decimal n
numbers_text n (m ∷ ms) = decimal n ++ 44 ∷ numbers_text m ms

pub record AreNumbers (left : ℕ) (text : List ℕ) : Type 0 where
  pub first : ℕ
  pub more : List ℕ
  pub few : length more + 1 ≤ left
  pub small : first < 2 ^ 64
  pub within : All (λ n. n < 2 ^ 64) more
  pub is : text ≡ numbers_text first more

pub record AreCodes (text : List ℕ) : Type 0 where
  pub numbers : List ℕ
  pub few : length numbers ≤ 16
  pub within : All (λ n. n < 2 ^ 64) numbers
  pub is : text ≡ codes_text numbers

-- a word says an answer that isn't 0
pub record IsAnswer (word : List ℕ) : Type 0 where
  pub number : ℕ
  pub small : number < 2 ^ 64
  pub some : 0 < number
  pub is : word ≡ decimal number

-- after `answer `
pub record IsVerdict (text : List ℕ) : Type 0 where
  pub answer : ℕ
  pub small : answer < 2 ^ 64
  pub some : 0 < answer
  pub codes_said : List ℕ
  pub codes_are : AreCodes codes_said
  pub is : text ≡ decimal answer ++ codes " codes " ++ codes_said

-- after `fault `
pub record IsFault (text : List ℕ) : Type 0 where
  pub fault : MachineFault
  pub slot : ℕ
  pub small : slot < 2 ^ 64
  pub is : text ≡ decimal (fault_number fault) ++ codes " slot " ++ decimal slot

pub record IsEnding (text : List ℕ) : Type 0 where
  pub ending : Ending
  pub within : IsWithin ending
  pub failing : fails ending ≡ true
  pub is : text ≡ ending_text ending

-- the numbers of names are within their ranges
abbrev pub AreNamesOf : By → List Name → Type 0
AreNamesOf way [] = Unit {0}
AreNamesOf way (n ∷ ns) = IsName way n × AreNamesOf way ns

-- and they are as a run with that head may have them at that cut
pub record AreNamesAt (h : HeadValue) (cut : ℕ) (names : List Name) : Type 0 where
  pub within : AreNamesOf h.by names
  pub of_run : are_names_of_run h cut names ≡ true

pub record IsChoiceBy (way : By) (text : List ℕ) : Type 0 where
  pub departures : List Departure
  pub names : AreNames way (map name_of departures)
  pub is : text ≡ choice_text way departures

-- a text is that of a choice at that cut of a run with that head
pub record IsChoice (h : HeadValue) (cut : ℕ) (text : List ℕ) : Type 0 where
  pub by : IsChoiceBy h.by text
  pub of_run : are_names_of_run h cut (map name_of by.departures) ≡ true

-- a text is cut at ` choice `, before which no h stands
pub record IsAtChoice (text front back : List ℕ) : Type 0 where
  pub is : text ≡ front ++ codes " choice " ++ back
  pub only : (xs ys : List ℕ) → lacks 104 xs ≡ true → text ≡ xs ++ codes " choice " ++ ys → (front ≡ xs) × (back ≡ ys)

pub record NoChoice (text : List ℕ) : Type 0 where
  pub none : (xs ys : List ℕ) → lacks 104 xs ≡ true → text ≡ xs ++ codes " choice " ++ ys → ⊥
