use Rattle.std.proofs.Common.{ℕ, ◌≡◌, ◌+◌, List, [], All, sym, subst, rules}
use Rattle.std.proofs.lemmas.Option.{slice_get-get_or}
use Rattle.losses.specs.ProgramOutcomes.{outcomes_failing}
use Rattle.crash_page.specs.declared.program.ProgramFailures.{ProgramFailures}
use Rattle.page_parts.specs.Judges.{judge_text}
use Rattle.crash_page.specs.Page.{AreOfRun}
use Rattle.crash_page.specs.Failing.{AreFailing}
use Rattle.crash_page.proofs.Owned.{failing_none, failing_more, taken_none, taken_more}
use Rattle.runs.specs.Marked.{images_marked}
use Rattle.runs.specs.Paged.{IsSaid}
use Rattle.runs.proofs.paging.all_failures.Goals as goal

pub loop-program-init : goal.loop-program-init
loop-program-init c =
    let none : c.new-found.result.items ≡ [] = search rules in
    let s = c.args.findings.now.starts.now in (
      failing_none s (IsSaid c.args.heads.now) (images_marked c.args.findings.now.marks.now) (λ (program : ℕ). outcomes_failing program c.args.findings.now.lines.now) c.args.failures.now c.new-found.result.items none,
      taken_none s c.new-found.result.items none,
    )

pub loop-program-preserved : goal.loop-program-preserved
loop-program-preserved c =
    let found = c.args.findings.now in
    let s = found.starts.now in
    let ls = found.lines.now in
    let n = c.loop-program.program in
    let f : ProgramFailures = c.in_ok-failing.failing in
    let said : IsSaid c.args.heads.now n (judge_text f.judge) =
    record { head = _; there = slice_get-get_or c.args.heads.now n _ c.loop-program-test.true; is = c.in_ok-failing.ensures.head } in
    subst (λ (fs : List ProgramFailures). AreFailing s (IsSaid c.args.heads.now) (images_marked found.marks.now) (λ (program : ℕ). outcomes_failing program ls) c.args.failures.now (n + 1) fs × All (AreOfRun s) fs)
    (sym c.in_ok-push.ensures.items) (
      failing_more s (IsSaid c.args.heads.now) (images_marked found.marks.now) (λ (program : ℕ). outcomes_failing program ls) c.args.failures.now n c.loop-program.found.items f c.loop-program.invariant.0 said
          c.in_ok-failing.ensures.failing,
      taken_more s c.loop-program.found.items f c.loop-program.invariant.1 c.in_ok-failing.ensures.taken,
    )

pub checker_failures-requires-clause-images : goal.checker_failures-requires-clause-images
checker_failures-requires-clause-images c = c.requires.images c.loop-program.program
