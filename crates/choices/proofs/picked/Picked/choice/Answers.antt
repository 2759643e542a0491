use Rattle.std.proofs.Common.{List, length, ◌∙◌, ap, sym, subst}
use Rattle.epochs.specs.Parts.{volatile_parts}
use Rattle.choices.specs.declared.pick.Pick.{Pick}
use Rattle.choices.specs.Picks.{ArePicks, most_fates}
use Rattle.choices.specs.Choices.{choice_of}
use Rattle.choices.specs.Picked.{choice_of_picked}
use Rattle.choices.proofs.Passing.{inside_stands}
use Rattle.choices.proofs.picked.Picked.choice.Goals as goal

pub of-requires-clause-cut : goal.of-requires-clause-cut
of-requires-clause-cut c = let at = c.requires in (inside_stands c.args.plan.now at.0 at.1 at.2 _ _ c.self.view_is at.3).within

pub of-requires-clause-picks : goal.of-requires-clause-picks
of-requires-clause-picks c =
    let at = c.requires in
    let P : List Pick → Type 0 = λ ps. ArePicks most_fates (length (volatile_parts c.args.plan.now.by c.args.plan.now.log.entries c.self.inside.cut)) ps in
    subst P (sym (c.copied.ensures ∙ c.as_slice.ensures.value)) (inside_stands c.args.plan.now at.0 at.1 at.2 _ _ c.self.view_is at.3).most

pub returns : goal.returns
returns c =
    c.of.ensures
    ∙ ap (choice_of c.args.plan.now.by c.args.plan.now.log.entries c.self.inside.place c.self.inside.cut) (c.copied.ensures ∙ c.as_slice.ensures.value)
    ∙ ap (choice_of_picked c.args.plan.now) c.self.view_is
