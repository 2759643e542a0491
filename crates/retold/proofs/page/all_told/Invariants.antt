use Rattle.std.proofs.Common.{ℕ, All, map}
use Rattle.crash_page.specs.Page.{AreOfRun}
use Rattle.crash_page.specs.Failing.{AreFailing}
use Rattle.join.specs.Given.{line_told}
use Rattle.join.specs.GivenReading.{given_told}
use Rattle.retold.specs.Told.{IsSaid, images_told_of, outcomes_told_of}
use Rattle.retold.proofs.page.all_told.Given as goal

abbrev pub invariant-loop-program : goal.invariant-loop-program
invariant-loop-program l =
    AreFailing l.subject.starts.now (IsSaid l.options (given_told l.given)) (λ (program : ℕ). images_told_of program (map line_told l.subject.lines.now)) (λ (program : ℕ). outcomes_told_of program (map line_told l.subject.lines.now)) l.failures l.program l.found.items
    × All (AreOfRun l.subject.starts.now) l.found.items
