-- The refusals of a run, by what was found before.
use Rattle.std.proofs.Common.{ℕ, ◌≡◌, ◌≢◌, ◌↔◌, Bool, IsTrue, List, [], length, subst, sym}
use Rattle.base.specs.declared.refusal.Refusal.{Refusal}
use Rattle.logfmt.specs.Bounds.{LogValue}
use Rattle.request.specs.declared.settings.Settings.{Settings}
use Rattle.request.specs.Source.{Recording, HasImages, RefusesLog, for_log}
use Rattle.checker.specs.Checker.{CheckerValue}
use Rattle.workers.specs.Failing.{failing_lines}
use Rattle.workers.specs.Safe.{AcceptedCheckersRunSafely}
use Rattle.runs.specs.Explore.{Refuses, for_source, AreCheckersOf, subject_of, IsProgramCount, IsRun}
use Rattle.runs.proofs.Faultless.{faultless}

pub of_log : (text : Recording) (files : List (List ℕ)) (s : Settings) (r : Refusal) → IsProgramCount (length files) → RefusesLog text s r → Refuses text files s r
of_log text files s r count h = for_source r count (for_log r h)

-- what a run answers, by what is told of its log and its checkers
pub run_of : AcceptedCheckersRunSafely → (Tells : Settings → LogValue → List CheckerValue → List ℕ → Type 0) (text : Recording) (files : List (List ℕ)) (s : Settings) (log : LogValue)
    (checkers now : List CheckerValue) (bytes : List ℕ) (failing : Bool) → IsProgramCount (length files) → HasImages text s log → AreCheckersOf s files checkers → now ≡ checkers
    → Tells s log now bytes → IsTrue failing ↔ (failing_lines (subject_of s log now) ≢ []) → IsRun Tells text files s bytes failing
run_of sound Tells text files s log checkers now bytes failing count source made same tells fails =
    let own : AreCheckersOf s files now = subst (AreCheckersOf s files) (sym same) made in
    record {
      count = count;
      value = log;
      source = source;
      checkers = now;
      made = own;
      tells = tells;
      fails = fails;
      faultless = faultless sound text s files log now source own;
    }
