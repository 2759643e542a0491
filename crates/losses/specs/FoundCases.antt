-- The failing cases of any number of losses, as they were found (docs/CRASH-MODEL.md, Any number of losses).
use Rattle.std.specs.Prelude.{ℕ, List, sum_by}
use Rattle.machine.specs.Outcome.{Ending}
use Rattle.interp.specs.Ending.{ending_of}
use Rattle.losses.specs.declared.found.CaseFindings.{CaseFindings}
use Rattle.losses.specs.declared.found.CutFound.{CutFound}
use Rattle.losses.specs.declared.found.FailingCase.{FailingCase}

-- a leaf that fails: its number among the leaves, what the program ends in there, and a set for each part at risk
pub record FailingValue : Type 0 where
  pub number : ℕ
  pub ending : Ending
  pub sets : List ℕ

abbrev pub failing_value : FailingCase → FailingValue
failing_value f = record { number = f.number; ending = ending_of f.outcome; sets = f.sets.items }

-- how many cases were found at a cut, and at some cuts
abbrev pub cases_at : List CaseFindings → ℕ
cases_at found = sum_by (λ (f : CaseFindings). f.cases) found

abbrev pub cases_in : List CutFound → ℕ
cases_in found = sum_by (λ (c : CutFound). cases_at c.programs.items) found

-- how many there are at most
abbrev pub most_cases : ℕ
most_cases = 16777216
