use Rattle.std.proofs.Common.{List, length, Some, ◌∙◌, ap, sym, subst}
use Rattle.epochs.specs.Parts.{volatile_parts}
use Rattle.choices.specs.declared.pick.Pick.{Pick}
use Rattle.choices.specs.Picks.{ArePicks, most_fates}
use Rattle.choices.specs.Choices.{ChoiceValue, choice_of}
use Rattle.choices.specs.Picked.{PickedValue, choice_of_picked, marked_picks}
use Rattle.choices.proofs.Passing.{picked_at, inside_ranked, marked_ranked, ranked_stands}
use Rattle.choices.proofs.picked.Picked.only.Goals as goal

pub of-requires-clause-cut : goal.of-requires-clause-cut
of-requires-clause-cut c =
    let at = c.requires in
    let plan = c.args.plan.now in
    (ranked_stands plan at.0 at.1 at.2 _ (inside_ranked plan at.0 at.1 at.2 _ _ c.self.view_is at.3)).within

pub of-requires-clause-picks : goal.of-requires-clause-picks
of-requires-clause-picks c =
    let at = c.requires in
    let plan = c.args.plan.now in
    let inside : PickedValue = picked_at c.self.inside.place c.self.inside.cut c.self.inside.picks.items in
    let got = marked_ranked plan at.0 at.1 at.2 inside c.args.marks.now (inside_ranked plan at.0 at.1 at.2 inside _ c.self.view_is at.3) in
    let P : List Pick → Type 0 = λ ps. ArePicks most_fates (length (volatile_parts plan.by plan.log.entries c.self.inside.cut)) ps in
    subst P (sym (c.marked-picks.ensures ∙ ap (marked_picks c.args.marks.now) c.as_slice.ensures.value)) (ranked_stands plan at.0 at.1 got.0 _ got.1).most

pub returns-clause-value : goal.returns-clause-value
returns-clause-value c =
    let plan = c.args.plan.now in
    c.of.ensures
    ∙ ap (choice_of plan.by plan.log.entries c.self.inside.place c.self.inside.cut) (c.marked-picks.ensures ∙ ap (marked_picks c.args.marks.now) c.as_slice.ensures.value)
    ∙ ap (λ (p : PickedValue). choice_of_picked plan (record p { picks = marked_picks c.args.marks.now p.picks })) c.self.view_is

pub returns-clause-ranked : goal.returns-clause-ranked
returns-clause-ranked c = λ bound tears n h.
    let got = marked_ranked c.args.plan.now bound tears n c.args.self.now c.args.marks.now h in
    (got.0, got.1 ∙ ap (λ (x : ChoiceValue). Some x) (sym (returns-clause-value c)))
