use Rattle.std.proofs.Common.{ℕ, ◌≡◌, ◌+◌, ◌<◌, List, [], All, map, sym, subst, rules}
use Rattle.crash_page.specs.declared.program.ProgramFailures.{ProgramFailures}
use Rattle.page_parts.specs.Judges.{judge_text}
use Rattle.crash_page.specs.Page.{AreOfRun}
use Rattle.crash_page.specs.Failing.{AreFailing}
use Rattle.crash_page.proofs.Owned.{failing_none, failing_more, taken_none, taken_more}
use Rattle.join.specs.Given.{line_told}
use Rattle.join.specs.GivenReading.{given_told}
use Rattle.retold.specs.Told.{IsSaid, images_told_of, outcomes_told_of}
use Rattle.retold.proofs.page.all_told.Goals as goal

pub loop-program-init : goal.loop-program-init
loop-program-init c =
    let none : c.new-found.result.items ≡ [] = search rules in
    let s = c.args.subject.now.starts.now in
    let ts = map line_told c.args.subject.now.lines.now in (
      failing_none s (IsSaid c.args.options.now (given_told c.args.given.now)) (λ (program : ℕ). images_told_of program ts) (λ (program : ℕ). outcomes_told_of program ts) c.args.failures.now c.new-found.result.items none,
      taken_none s c.new-found.result.items none,
    )

pub loop-program-preserved : goal.loop-program-preserved
loop-program-preserved c =
    let s = c.args.subject.now.starts.now in
    let ts = map line_told c.args.subject.now.lines.now in
    let Said = IsSaid c.args.options.now (given_told c.args.given.now) in
    let fs = c.args.failures.now in
    let n = c.loop-program.program in
    let f : ProgramFailures = c.in_ok-told.told in
    let said : IsSaid c.args.options.now (given_told c.args.given.now) n (judge_text f.judge) =
    subst (λ (text : List ℕ). IsSaid c.args.options.now (given_told c.args.given.now) n text) (sym c.in_ok-told.ensures.judge) c.judge_of-judge.ensures in
    subst (λ (gs : List ProgramFailures). AreFailing s Said (λ (program : ℕ). images_told_of program ts) (λ (program : ℕ). outcomes_told_of program ts) fs (n + 1) gs × All (AreOfRun s) gs) (sym c.in_ok-push.ensures.items) (
      failing_more s Said (λ (program : ℕ). images_told_of program ts) (λ (program : ℕ). outcomes_told_of program ts) fs n c.loop-program.found.items f c.loop-program.invariant.0 said c.in_ok-told.ensures.failing,
      taken_more s c.loop-program.found.items f c.loop-program.invariant.1 c.in_ok-told.ensures.taken,
    )

pub judge_of-judge-requires-clause-there : goal.judge_of-judge-requires-clause-there
judge_of-judge-requires-clause-there c = subst (λ (n : ℕ). c.loop-program.program < n) c.requires.programs c.loop-program-test.true
