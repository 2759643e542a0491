-- What is told of a report that is given in place of programs (docs/COMMANDS.md, why, page, cure): as these tell it of a run, by the lines
-- of the report.
use Rattle.std.specs.Prelude.{ℕ, ◌≡◌, ◌+◌, ◌<◌, ◌==◌, Bool, true, false, nat_le, if◌then◌else◌, List, [], ◌∷◌, ◌++◌, codes, length, map, filter, slice_get, Some}
use Rattle.std.specs.Fmt.{decimal}
use Rattle.std.specs.List.{flat_map}
use Rattle.std.specs.Option.{option_map_or, option_and_then}
use Rattle.choices.specs.Choices.{ranked_choices}
use Rattle.choices.specs.Sums.{StartsValue}
use Rattle.report.specs.declared.head.ProgramHead.{ProgramHead}
use Rattle.report.specs.Words.{next_flush}
use Rattle.losses.specs.declared.flushes.counted.MissingFlush.{MissingFlush}
use Rattle.losses.specs.Counted.{AreMissing}
use Rattle.losses.specs.declared.why.cut.CutFailures.{CutFailures}
use Rattle.losses.specs.Failures.{AreImages}
use Rattle.losses.specs.Causes.{AreCauses, causes_from}
use Rattle.losses.specs.declared.cure.failure.Failure.{Failure}
use Rattle.losses.specs.FailureWindows.{AreFailuresAt, windows_in, places_in}
use Rattle.losses.specs.CureText.{programs_text, missing_text, flush_line, uncured_at}
use Rattle.page_parts.specs.Judges.{checker_text, outside_text}
use Rattle.crash_page.specs.Failing.{IsPage}
use Rattle.join.specs.Given.{GivenValue, ToldLine, AreJudges, judge_count, marks_told, told_line}

-- a line is of the program of that number
abbrev pub is_of : ℕ → ToldLine → Bool
is_of program t = t.mark.program == program

-- the images on which a program fails, and what it ends in on each
abbrev pub images_told_of : ℕ → List ToldLine → List ℕ
images_told_of program ts = map (λ (t : ToldLine). t.mark.image) (filter (is_of program) ts)

abbrev pub outcomes_told_of : ℕ → List ToldLine → List (List ℕ)
outcomes_told_of program ts = map (λ (t : ToldLine). t.outcome) (filter (is_of program) ts)

-- lines are of the images of a run, and those of one program rise
pub record AreOfRun (s : StartsValue) (ts : List ToldLine) : Type 0 where
  pub within : (i : ℕ) (t : ToldLine) → slice_get ts i ≡ Some t → t.mark.image < length (ranked_choices s.plan s.bound s.tears)
  pub images : (program : ℕ) → AreImages s (images_told_of program ts)

-- the failures of the lines, by the choices of their images, and the flushes that are missing for them
pub record AreMissingFor (s : StartsValue) (ts : List ToldLine) (fs : List Failure) (ms : List MissingFlush) : Type 0 where
  pub failures : AreFailuresAt s (marks_told ts) fs
  pub missing : AreMissing (windows_in fs) ms

-- title, options and programs, and the totals, as the report has them
unfoldable pub opening_told : GivenValue → List ℕ
opening_told g = codes "crash why 2\n" ++ (g.head ++ g.last)

-- how many programs the report has
abbrev pub count_of : GivenValue → ℕ
count_of g = judge_count g.outside g.programs

-- the bytes say why the programs fail
pub record TellsWhy (s : StartsValue) (g : GivenValue) (bytes : List ℕ) : Type 0 where
  pub failures : List Failure
  pub missing : List MissingFlush
  pub are_missing : AreMissingFor s g.lines failures missing
  pub causes : List (List CutFailures)
  pub all : length causes ≡ count_of g
  pub each : AreCauses s (λ program. images_told_of program g.lines) (λ program. outcomes_told_of program g.lines) causes
  pub text : bytes ≡ opening_told g ++ (missing_text (count_of g) failures missing ++ causes_from s (λ program. outcomes_told_of program g.lines) 0 causes)

-- the line of the first failure without a window
abbrev pub uncured_told : StartsValue → List ToldLine → List Failure → List ℕ
uncured_told s ts fs = option_map_or (λ (t : ToldLine). codes "no flush cures " ++ told_line s t) (option_and_then (λ (n : ℕ). slice_get ts n) (uncured_at fs)) []

-- entries with commas between
abbrev pub entries_told : List ℕ → List ℕ
entries_told [] = []
entries_told (entry ∷ entries) = decimal entry ++ flat_map next_flush entries

-- the flushes that the next run is to be given, which isn't made
unfoldable pub untried_line : List ℕ → List ℕ
untried_line entries = codes "untried --flush " ++ entries_told entries ++ codes "\n"

-- or that they are more than a run can be given
unfoldable pub beyond_line : ℕ → List ℕ
beyond_line count = codes "untried " ++ decimal count ++ codes " flushes, more than --flush takes\n"

-- which run is next: `--flush` takes 64 entries
abbrev pub next_told : List ℕ → List ℕ
next_told entries = if nat_le (length entries) 64 then untried_line entries else beyond_line (length entries)

-- the last line: where no flush is missing that of the report, and else which run is next, with the flushes that were added before
abbrev pub end_told : List ℕ → GivenValue → List MissingFlush → List ℕ
end_told added g [] = g.last
end_told added g (m ∷ ms) = next_told (added ++ places_in (m ∷ ms))

-- the bytes say where flushes are missing
pub record TellsPlaces (added : List ℕ) (s : StartsValue) (g : GivenValue) (bytes : List ℕ) : Type 0 where
  pub failures : List Failure
  pub missing : List MissingFlush
  pub are_missing : AreMissingFor s g.lines failures missing
  pub text : bytes ≡ codes "crash cure 1\n" ++ (g.head ++ (programs_text (count_of g) failures ++ (uncured_told s g.lines failures ++ (flat_map (flush_line 1) missing ++ end_told added g missing))))

-- a report begins, after its title, with that line of options and the lines of its programs
pub record HasHead (options : List ℕ) (g : GivenValue) : Type 0 where
  pub judges : List ℕ
  pub are : AreJudges g.outside g.programs judges
  pub head : g.head ≡ options ++ judges

-- the head of the report of a program that is given images as files, with those words
pub record IsOwnHead (options words head : List ℕ) : Type 0 where
  pub is : head ≡ options ++ (codes "program 0 outside " ++ (words ++ codes "\n"))

-- it is the head of no such report
pub record NoOwnHead (options head : List ℕ) : Type 0 where
  pub none : (words : List ℕ) → IsOwnHead options words head → ⊥

-- on a page this is said of the program of that number: what its line in the report has after it
pub data IsSaid (options : List ℕ) (g : GivenValue) (program : ℕ) (text : List ℕ) : Type 0 where
  of_checker : (head : ProgramHead) → g.outside ≡ false → slice_get g.programs program ≡ Some head → text ≡ checker_text head → IsSaid options g program text
  of_own : (words : List ℕ) → g.outside ≡ true → IsOwnHead options words g.head → text ≡ outside_text words → IsSaid options g program text

-- the bytes are the page of the lines
pub record TellsPage (options : List ℕ) (s : StartsValue) (g : GivenValue) (bytes : List ℕ) : Type 0 where
  pub failures : List Failure
  pub are_failures : AreFailuresAt s (marks_told g.lines) failures
  pub page : IsPage (g.head ++ g.last) s (IsSaid options g) (λ (program : ℕ). images_told_of program g.lines) (λ (program : ℕ). outcomes_told_of program g.lines) failures (count_of g) bytes
