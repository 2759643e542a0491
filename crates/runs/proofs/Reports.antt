-- A report of a run as it is asked for is a report.
use Rattle.std.proofs.Common.{ℕ, Bool, List, [], ◌∷◌}
use Rattle.checker.specs.Checker.{CheckerValue}
use Rattle.request.specs.declared.settings.Settings.{Settings}
use Rattle.request.specs.Source.{Recording}
use Rattle.runs.specs.Explore.{AreCheckersOf, ArePrograms, IsReport, IsReportOfRun}

spelled : (s : Settings) (files : List (List ℕ)) (checkers : List CheckerValue) → AreCheckersOf s files checkers → ArePrograms files checkers
spelled s [] [] made = tt
spelled s [] (c ∷ checkers) made = absurd made
spelled s (bytes ∷ files) [] made = absurd made
spelled s (bytes ∷ files) (c ∷ checkers) made = (made.0.spelled, spelled s files checkers made.1)

pub report_of_run : (text : Recording) (files : List (List ℕ)) (s : Settings) (bytes : List ℕ) (failing : Bool) → IsReportOfRun text files s bytes failing → IsReport text files s bytes failing
report_of_run text files s bytes failing r = record {
  value = r.value;
  source = r.source;
  checkers = r.checkers;
  programs = spelled s files r.checkers r.made;
  tells = r.tells;
  fails = r.fails;
}
