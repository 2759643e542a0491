use Rattle.std.proofs.Common.{◌∙◌, ap, sym, subst}
use Rattle.choices.specs.Picked.{PickedValue, picked_of, IsRanked}
use Rattle.choices.proofs.Passing.{picked_at, picked_ranked}
use Rattle.choices.proofs.picked.Picked.of.Goals as goal

pub returns-clause-value : goal.returns-clause-value
returns-clause-value c =
    ap (picked_at c.choice.inside.place c.choice.inside.cut) (c.copied.ensures ∙ c.as_slice.ensures.value) ∙ ap picked_of c.choice.view_is

pub returns-clause-ranked : goal.returns-clause-ranked
returns-clause-ranked c = λ plan bound tears n h.
    let P : PickedValue → Type 0 = λ p. IsRanked plan bound tears n p in
    subst P (sym (returns-clause-value c)) (picked_ranked plan bound tears n c.args.choice.now h)
