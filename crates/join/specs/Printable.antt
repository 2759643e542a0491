-- Failing lines as a text can have them: each number within its range.
use Rattle.std.specs.Prelude.{ℕ, ◌<◌, ◌≤◌, ◌^◌, ◌≡◌, ◌==◌, ◌&&◌, ◌||◌, nat_le, nat_lt, Bool, true, false, List, [], ◌∷◌, ◌++◌, length, map, codes}
use Rattle.std.specs.List.{All}
use Rattle.machine.specs.Outcome.{Ending, Verdict, Stopped, OutOfSteps, Stray, fails}
use Rattle.epochs.specs.declared.part.By.{By}
use Rattle.epochs.specs.Cuts.{is_after_first, is_before_last}
use Rattle.choices.specs.declared.choice.Departure.{Departure}
use Rattle.choices.specs.declared.fate.Fate.{Fate}
use Rattle.choices.specs.declared.fate.Fate.TheVariants as fate
use Rattle.choices.specs.declared.name.Name.{Name}
use Rattle.choices.specs.Named.{name_of}
use Rattle.report.specs.ChoiceText.{AreNames}
use Rattle.report.specs.Line.{FailingLine}
use Rattle.report.specs.LineText.{ending_text, choice_text}
use Rattle.report.specs.Report.{HeadValue}

-- what a checker ended in, of at most sixteen codes
abbrev pub IsWithin : Ending → Type 0
IsWithin (Verdict answer numbers) = (answer < 2 ^ 64) × (length numbers ≤ 16) × All (λ n. n < 2 ^ 64) numbers
IsWithin (Stopped cause slot) = slot < 2 ^ 64
IsWithin OutOfSteps = Unit {0}
IsWithin (Stray slot) = slot < 2 ^ 64

-- what a line has after its program
abbrev pub end_text : Ending → By → List Departure → List ℕ
end_text e way ds = ending_text e ++ codes " choice " ++ choice_text way ds

-- a part comes before another: by entry, and then by its place there
abbrev pub comes_before : Name → Name → Bool
comes_before n m = nat_lt n.entry m.entry || (n.entry == m.entry && nat_lt n.place m.place)

-- of parts each comes before the next one, the first after `last`
abbrev pub names_rise : Name → List Name → Bool
names_rise last [] = true
names_rise last (n ∷ ns) = comes_before last n && names_rise n ns

abbrev pub all_rise : List Name → Bool
all_rise [] = true
all_rise (n ∷ ns) = names_rise n ns

-- nothing of a part arrives
abbrev pub is_drop : Fate → Bool
is_drop fate.Drop = true
is_drop _ = false

-- what is lost or torn of an image at that cut is of an entry before the cut, and torn only where there are tears
abbrev pub is_name_of_run : Bool → ℕ → Name → Bool
is_name_of_run tears cut n = nat_lt n.entry cut && (tears || is_drop n.fate)

abbrev pub each_of_run : Bool → ℕ → List Name → Bool
each_of_run tears cut [] = true
each_of_run tears cut (n ∷ ns) = is_name_of_run tears cut n && each_of_run tears cut ns

-- no more than the bound allows, rising
abbrev pub are_names_of_run : HeadValue → ℕ → List Name → Bool
are_names_of_run h cut ns = nat_le (length ns) h.bound && each_of_run h.tears cut ns && all_rise ns

-- there is that program, and the cut is one of the log, within the range that is asked for
abbrev pub has_program_and_cut : HeadValue → ℕ → ℕ → Bool
has_program_and_cut h cut program = nat_lt program (length h.programs) && nat_le cut h.entries && is_after_first h.cuts.from cut && is_before_last h.cuts.to cut

-- a line that a run with that head may print
pub record IsLineOfRun (h : HeadValue) (l : FailingLine) : Type 0 where
  pub there : has_program_and_cut h l.cut l.program ≡ true
  pub failing : fails l.ending ≡ true
  pub way : l.by ≡ h.by
  pub names : are_names_of_run h l.cut (map name_of l.departures) ≡ true

-- a text is what such a line of that cut has after its program
pub record IsEnd (h : HeadValue) (cut : ℕ) (text : List ℕ) : Type 0 where
  pub ending : Ending
  pub departures : List Departure
  pub within : IsWithin ending
  pub failing : fails ending ≡ true
  pub names : AreNames h.by (map name_of departures)
  pub of_run : are_names_of_run h cut (map name_of departures) ≡ true
  pub is : text ≡ end_text ending h.by departures

-- a line whose numbers are within their ranges, of at most three departures
pub record IsPrintable (l : FailingLine) : Type 0 where
  pub image : l.image < 2 ^ 64
  pub cut : l.cut < 2 ^ 32
  pub program : l.program < 2 ^ 8
  pub ending : IsWithin l.ending
  pub names : AreNames l.by (map name_of l.departures)

abbrev pub EachLine : (FailingLine → Type 0) → List FailingLine → Type 0
EachLine P [] = Unit {0}
EachLine P (l ∷ ls) = P l × EachLine P ls

abbrev pub ArePrintable : List FailingLine → Type 0
ArePrintable ls = EachLine IsPrintable ls

abbrev pub AreLinesOfRun : HeadValue → List FailingLine → Type 0
AreLinesOfRun h ls = EachLine (IsLineOfRun h) ls
