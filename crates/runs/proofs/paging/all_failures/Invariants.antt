use Rattle.std.proofs.Common.{ℕ, All}
use Rattle.losses.specs.ProgramOutcomes.{outcomes_failing}
use Rattle.crash_page.specs.Page.{AreOfRun}
use Rattle.crash_page.specs.Failing.{AreFailing}
use Rattle.runs.specs.Marked.{images_marked}
use Rattle.runs.specs.Paged.{IsSaid}
use Rattle.runs.proofs.paging.all_failures.Given as goal

abbrev pub invariant-loop-program : goal.invariant-loop-program
invariant-loop-program l =
    AreFailing l.findings.starts.now (IsSaid l.heads) (images_marked l.findings.marks.now) (λ (program : ℕ). outcomes_failing program l.findings.lines.now) l.failures l.program l.found.items
    × All (AreOfRun l.findings.starts.now) l.found.items
