use Rattle.std.proofs.Common.{◌∙◌, List, ℕ, Bor, length, map, sym, ap, subst, arith}
use Rattle.std.proofs.lemmas.List.{length-map}
use Rattle.std.proofs.lemmas.Result.{IfOk-weaker}
use Rattle.choices.specs.Sums.{StartsValue}
use Rattle.losses.specs.Failures.{AreImages}
use Rattle.crash_page.specs.Page.{AreOfRun}
use Rattle.join.specs.Given.{line_told}
use Rattle.retold.proofs.Rising.{as_many}
use Rattle.retold.proofs.Titles.{failing_so}
use Rattle.retold.proofs.page.failures_told.Goals as goal

pub program_failures-requires-clause-images : goal.program_failures-requires-clause-images
program_failures-requires-clause-images c =
    subst (λ (s : StartsValue). AreImages s c.as_slice.result.now) (sym c.requires.run)
    (subst (λ (ns : List ℕ). AreImages c.args.subject.now.starts.now ns) (sym (c.as_slice.ensures.value ∙ c.in_ok-images.ensures)) (c.requires.of_run.images c.args.program))

pub program_failures-requires-clause-outcomes : goal.program_failures-requires-clause-outcomes
program_failures-requires-clause-outcomes c =
    let own = as_many c.args.program (map line_told c.args.subject.now.lines.now) in
    let images = ap (λ (ns : List ℕ). length ns) (c.as_slice.ensures.value ∙ c.in_ok-images.ensures) in
    let mapped = length-map c.in_ok-outcomes.outcomes.items (λ (o : Bor (List ℕ)). o.now) in
    let said = ap (λ (os : List (List ℕ)). length os) c.in_ok-outcomes.ensures in
    omega (arith, own, images, mapped, said)

pub returns-clause-failing : goal.returns-clause-failing
returns-clause-failing c =
    let fs = c.args.failures.now in
    let program = c.args.program in
    IfOk-weaker c.program_failures.result _ _
    (λ f is. failing_so _ _ _ _ _ _ program fs f c.requires.run (c.as_slice.ensures.value ∙ c.in_ok-images.ensures) c.in_ok-outcomes.ensures is) c.program_failures.ensures.failing

pub returns-clause-taken : goal.returns-clause-taken
returns-clause-taken c = IfOk-weaker c.program_failures.result _ _ (λ f are. subst (λ (s : StartsValue). AreOfRun s f) c.requires.run are) c.program_failures.ensures.taken
