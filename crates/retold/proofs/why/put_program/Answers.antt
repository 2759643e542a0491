use Rattle.std.proofs.Common.{◌∙◌, List, ℕ, Bor, length, map, sym, ap, subst, arith}
use Rattle.std.proofs.lemmas.List.{length-map}
use Rattle.std.proofs.lemmas.Result.{on_ok_weaker}
use Rattle.losses.specs.Failures.{AreImages}
use Rattle.losses.proofs.Causes.{tells_as}
use Rattle.join.specs.Given.{line_told}
use Rattle.retold.specs.Told.{images_told_of, outcomes_told_of}
use Rattle.retold.proofs.Rising.{as_many}
use Rattle.retold.proofs.why.put_program.Goals as goal

pub put_causes-requires-clause-images : goal.put_causes-requires-clause-images
put_causes-requires-clause-images c =
    subst (λ (ns : List ℕ). AreImages c.args.subject.now.starts.now ns) (sym (c.as_slice.ensures.value ∙ c.in_ok-images.ensures)) (c.requires.images c.args.program)

pub put_causes-requires-clause-outcomes : goal.put_causes-requires-clause-outcomes
put_causes-requires-clause-outcomes c =
    let own = as_many c.args.program (map line_told c.args.subject.now.lines.now) in
    let images = ap (λ (ns : List ℕ). length ns) (c.as_slice.ensures.value ∙ c.in_ok-images.ensures) in
    let mapped = length-map c.in_ok-outcomes.outcomes.items (λ (o : Bor (List ℕ)). o.now) in
    let said = ap (λ (os : List (List ℕ)). length os) c.in_ok-outcomes.ensures in
    let outs = ap (λ xs. length xs) c.as_slice-2.ensures.value in
    omega (arith, own, images, mapped, said, outs)

pub returns : goal.returns
returns c =
    let ts = map line_told c.args.subject.now.lines.now in
    on_ok_weaker c.put_causes.result
    (tells_as c.args.subject.now.starts.now c.as_slice.result.now (images_told_of c.args.program ts) (map (λ o. o.now) c.as_slice-2.result.now) (outcomes_told_of c.args.program ts) c.args.program _ _
    (c.as_slice.ensures.value ∙ c.in_ok-images.ensures) (ap (map (λ o. o.now)) c.as_slice-2.ensures.value ∙ c.in_ok-outcomes.ensures))
    c.put_causes.ensures
