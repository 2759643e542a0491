use Rattle.std.proofs.Common.{◌∙◌, List, ℕ, length, sym, ap, subst, arith}
use Rattle.std.proofs.lemmas.Result.{IfOk-weaker}
use Rattle.choices.specs.Sums.{StartsValue}
use Rattle.losses.specs.Failures.{AreImages}
use Rattle.crash_page.specs.Page.{AreOfRun}
use Rattle.runs.proofs.Explained.{as_many}
use Rattle.runs.proofs.Pages.{failing_so}
use Rattle.runs.proofs.paging.checker_failures.Goals as goal

pub program_failures-requires-clause-images : goal.program_failures-requires-clause-images
program_failures-requires-clause-images c =
    subst (λ (s : StartsValue). AreImages s c.as_slice.result.now) (sym c.requires.run)
    (subst (λ (ns : List ℕ). AreImages c.args.findings.now.starts.now ns) (sym (c.as_slice.ensures.value ∙ c.in_ok-images.ensures)) c.requires.images)

pub program_failures-requires-clause-outcomes : goal.program_failures-requires-clause-outcomes
program_failures-requires-clause-outcomes c =
    let many = c.in_ok-outcomes.ensures.many in
    let own = as_many c.args.program c.args.findings.now.marks.now in
    let images = ap (λ (ns : List ℕ). length ns) (c.as_slice.ensures.value ∙ c.in_ok-images.ensures) in
    omega (arith, many, own, images)

pub returns-clause-failing : goal.returns-clause-failing
returns-clause-failing c =
    let found = c.args.findings.now in
    let fs = c.args.failures.now in
    let program = c.args.program in
    let ends = c.in_ok-outcomes.ensures.read.read found.lines.now found.text_is found.marks_are in
    let images = c.as_slice.ensures.value ∙ c.in_ok-images.ensures in
    IfOk-weaker c.program_failures.result _ _
    (λ f is. failing_so _ _ _ _ _ _ program fs f c.requires.run images ends is) c.program_failures.ensures.failing

pub returns-clause-head : goal.returns-clause-head
returns-clause-head c = c.program_failures.ensures.judge

pub returns-clause-taken : goal.returns-clause-taken
returns-clause-taken c = IfOk-weaker c.program_failures.result _ _ (λ f are. subst (λ (s : StartsValue). AreOfRun s f) c.requires.run are) c.program_failures.ensures.taken
