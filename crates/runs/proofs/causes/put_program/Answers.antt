use Rattle.std.proofs.Common.{◌∙◌, List, ℕ, length, map, sym, ap, subst, arith}
use Rattle.std.proofs.lemmas.Result.{on_ok_weaker}
use Rattle.choices.specs.Sums.{StartsValue}
use Rattle.losses.specs.Failures.{AreImages}
use Rattle.runs.proofs.Explained.{as_many, tells_program}
use Rattle.runs.proofs.causes.put_program.Goals as goal

pub put_causes-requires-clause-by : goal.put_causes-requires-clause-by
put_causes-requires-clause-by c = c.by-by.ensures ∙ sym (ap (λ (t : StartsValue). t.plan.by) c.args.findings.now.starts_are)

pub put_causes-requires-clause-images : goal.put_causes-requires-clause-images
put_causes-requires-clause-images c =
    subst (λ (ns : List ℕ). AreImages c.args.findings.now.starts.now ns) (sym (c.as_slice.ensures.value ∙ c.in_ok-images.ensures)) c.requires

pub put_causes-requires-clause-outcomes : goal.put_causes-requires-clause-outcomes
put_causes-requires-clause-outcomes c =
    let many = c.in_ok-outcomes.ensures.many in
    let own = as_many c.args.program c.args.findings.now.marks.now in
    let images = ap (λ (ns : List ℕ). length ns) (c.as_slice.ensures.value ∙ c.in_ok-images.ensures) in
    let outs = ap (λ xs. length xs) c.as_slice-2.ensures.value in
    omega (arith, many, own, images, outs)

pub returns : goal.returns
returns c =
    let found = c.args.findings.now in
    on_ok_weaker c.put_causes.result
    (tells_program found.starts.now found.lines.now found.marks.now c.args.program found.text.now c.as_slice.result.now (map (λ o. o.now) c.in_ok-outcomes.outcomes.items)
    (map (λ o. o.now) c.as_slice-2.result.now) _ _ found.text_is found.marks_are (c.as_slice.ensures.value ∙ c.in_ok-images.ensures) c.in_ok-outcomes.ensures.read
    (ap (map (λ o. o.now)) c.as_slice-2.ensures.value))
    c.put_causes.ensures
