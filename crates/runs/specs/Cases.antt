-- What a run tells of any number of losses, by cases (docs/OUTPUT.md, The text of cases).
use Rattle.std.specs.Prelude.{ℕ, ◌≡◌, ◌≤◌, Bool, true, false, List, length, Option, None, Some}
use Rattle.logfmt.specs.Bounds.{LogValue}
use Rattle.checker.specs.Checker.{CheckerValue}
use Rattle.report.specs.Report.{HeadValue}
use Rattle.losses.specs.declared.found.Losses.{Losses}
use Rattle.losses.specs.declared.found.CutFound.{CutFound}
use Rattle.losses.specs.declared.found.FirstCase.{FirstCase}
use Rattle.losses.specs.FoundCases.{cases_in, most_cases}
use Rattle.case_runs.specs.Found.{AreFoundIn}
use Rattle.case_runs.specs.First.{IsFirstFailing}
use Rattle.case_text.specs.First.{first_bytes}
use Rattle.case_text.specs.Text.{cases_bytes, is_any_failing}
use Rattle.case_text.specs.Why.{TellsWhy}
use Rattle.case_page.specs.CaseFlushes.{IsCasePage}
use Rattle.request.specs.declared.any_losses.AnyLosses.{AnyLosses}
use Rattle.request.specs.declared.settings.CaseTelling.{CaseTelling}
use Rattle.request.specs.declared.settings.CaseTelling.TheVariants as telling
use Rattle.request.specs.declared.settings.Settings.{Settings}
use Rattle.request.specs.Source.{Recording, HasImages}
use Rattle.case_runs.specs.Cuts.{case_cuts}
use Rattle.request.specs.declared.facts.left_out.LeftOut.{LeftOut}
use Rattle.runs.specs.declared.explore_command.WantedAnswer.{WantedAnswer}
use Rattle.runs.specs.declared.explore_command.WantedAnswer.TheVariants as wanted
use Rattle.runs.specs.CaseCuts.{losses_of, left_out_of}
use Rattle.request.specs.Inputs.{inputs_number}
use Rattle.runs.specs.Explore.{IsProgramCount, AreCheckersOf, head_of}
use Rattle.runs.specs.Why.{with_first}

-- the text of what was found: which cases fail, with a number of the inputs where these are of a range of the cuts; why they do; or the page
-- of them
abbrev pub IsTextOf : CaseTelling → ℕ → HeadValue → Losses → LogValue → List CutFound → List ℕ → Type 0
IsTextOf telling.Cases inputs h asked value found bytes = bytes ≡ cases_bytes inputs h asked value found
IsTextOf telling.Causes inputs h asked value found bytes = TellsWhy h asked value found bytes
IsTextOf telling.Page inputs h asked value found bytes = IsCasePage h asked value found bytes

-- the cases of a log that fail, at each of these cuts, with each of these checkers: there aren't too many, the text tells of them, and
-- whether there is one
pub record TellsCases (inputs : ℕ) (l : AnyLosses) (s : Settings) (value : LogValue) (checkers : List CheckerValue) (bytes : List ℕ) (failing : Bool) : Type 0 where
  pub found : List CutFound
  pub are : AreFoundIn (losses_of l s) value s.by (case_cuts l.at_most s.cuts value.entries) checkers found
  pub few : cases_in found ≤ most_cases
  pub text : IsTextOf l.telling inputs (head_of (with_first false s) value checkers) (losses_of l s) value found bytes
  pub fails : failing ≡ is_any_failing found

-- the first of them alone: within 16,777,216 cases it is the first that fails, and the text has its line and no other; or none of all cases
-- fails, and the text is that of all
pub data TellsFirst (inputs : ℕ) (l : AnyLosses) (s : Settings) (value : LogValue) (checkers : List CheckerValue) (bytes : List ℕ) : Bool → Type 0 where
  of_first : (first : FirstCase) → IsFirstFailing (losses_of l s) value s.by (case_cuts l.at_most s.cuts value.entries) checkers first
      → bytes ≡ first_bytes (head_of (with_first false s) value checkers) (losses_of l s) value first → TellsFirst inputs l s value checkers bytes true
  of_none : TellsCases inputs l s value checkers bytes false → TellsFirst inputs l s value checkers bytes false

-- what is told of cases: of each that fails, or of the first alone
abbrev pub TellsLosses : Bool → ℕ → AnyLosses → Settings → LogValue → List CheckerValue → List ℕ → Bool → Type 0
TellsLosses false inputs l s value checkers bytes failing = TellsCases inputs l s value checkers bytes failing
TellsLosses true inputs l s value checkers bytes failing = TellsFirst inputs l s value checkers bytes failing

-- the bytes tell this of the programs and the log by their cases, whatever is lost
pub record IsByCases (Tells : Settings → LogValue → List CheckerValue → List ℕ → Bool → Type 0) (text : Recording) (files : List (List ℕ)) (s : Settings) (bytes : List ℕ) (failing : Bool) : Type 0 where
  pub count : IsProgramCount (length files)
  pub value : LogValue
  pub source : HasImages text s value
  pub checkers : List CheckerValue
  pub made : AreCheckersOf s files checkers
  pub tells : Tells s value checkers bytes failing

-- which of them fail, or which first
abbrev pub IsLosses : Bool → AnyLosses → Recording → List (List ℕ) → Settings → List ℕ → Bool → Type 0
IsLosses first l text files s bytes failing = IsByCases (TellsLosses first (inputs_number text.text files) l) text files s bytes failing

-- which cases fail
abbrev pub IsCases : AnyLosses → Recording → List (List ℕ) → Settings → List ℕ → Bool → Type 0
IsCases l text files s bytes failing = IsLosses false l text files s bytes failing

-- what was left out of the cases of a log, where none that was found fails; where one does nothing is told
pub data TellsLeft (l : AnyLosses) (s : Settings) (value : LogValue) (checkers : List CheckerValue) : Bool → Option LeftOut → Type 0 where
  some_fails : TellsLeft l s value checkers true None
  none_fails : (found : List CutFound) (left : LeftOut) → AreFoundIn (losses_of l s) value s.by (case_cuts l.at_most s.cuts value.entries) checkers found → left_out_of found ≡ Some left
      → TellsLeft l s value checkers false (Some left)

pub record LeavesOut (l : AnyLosses) (text : Recording) (files : List (List ℕ)) (s : Settings) (failing : Bool) (left : Option LeftOut) : Type 0 where
  pub value : LogValue
  pub source : HasImages text s value
  pub checkers : List CheckerValue
  pub made : AreCheckersOf s files checkers
  pub tells : TellsLeft l s value checkers failing left

-- a run that isn't by cases leaves none out
abbrev pub FindsLeft : WantedAnswer → Recording → List (List ℕ) → Settings → Bool → Option LeftOut → Type 0
FindsLeft (wanted.Told t) text files s failing left = left ≡ None
FindsLeft wanted.Cured text files s failing left = left ≡ None
FindsLeft (wanted.CuredCases l) text files s failing left = left ≡ None
FindsLeft (wanted.Cases l) text files s failing left = LeavesOut l text files s failing left
