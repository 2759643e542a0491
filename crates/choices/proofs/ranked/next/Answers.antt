use Rattle.std.proofs.Common.{ℕ, List, refl, sym, ◌∙◌, ap, arith, subst, map, length, slice_get, Some, None, ◌≡◌, ◌<◌, ◌+◌}
use Rattle.std.proofs.lemmas.Option.{slice_get_within, slice_get_past, slice_get_read}
use Rattle.epochs.specs.Parts.{volatile_parts}
use Rattle.epochs.specs.Cuts.{cuts_of}
use Rattle.choices.specs.declared.pick.Pick.{Pick}
use Rattle.choices.specs.Picks.{ArePicks, most_fates}
use Rattle.choices.specs.Choices.{ChoiceValue, choice_of, departure_of}
use Rattle.choices.proofs.Plans.{stands, same_step, stepped_on, new_picks, moved_on, at_last, choice_is}
use Rattle.choices.proofs.ranked.next.Goals as goal

pub volatile-requires : goal.volatile-requires
volatile-requires c =
    let at = c.requires.member in
    (stands _ _ _ at.0 _ (at.1 ∙ ap (λ (v : ChoiceValue). Some v) (sym c.choice.view_is))).within

pub step-requires-clause-below : goal.step-requires-clause-below
step-requires-clause-below c =
    let at = c.requires.member in
    let so = stands _ _ _ at.0 _ (at.1 ∙ ap (λ (v : ChoiceValue). Some v) (sym c.choice.view_is)) in
    rw (c.fates_of.ensures.value, c.volatile.ensures.value) so.picks

pub departures_of-choice-inside-requires-clause-cut :
    goal.departures_of-choice-inside-requires-clause-cut
departures_of-choice-inside-requires-clause-cut c =
    let at = c.requires.member in
    (stands _ _ _ at.0 _ (at.1 ∙ ap (λ (v : ChoiceValue). Some v) (sym c.choice.view_is))).within

pub departures_of-choice-inside-requires-clause-picks :
    goal.departures_of-choice-inside-requires-clause-picks
departures_of-choice-inside-requires-clause-picks c =
    let at = c.requires.member in
    let so = stands _ _ _ at.0 _ (at.1 ∙ ap (λ (v : ChoiceValue). Some v) (sym c.choice.view_is)) in
    let step = same_step _ _ _ _ _ _ _ c.fates_of.ensures.value c.volatile.ensures.value (c.if-step.ensures.moved refl) in
    let P : List Pick → Type 0 = λ ps. ArePicks most_fates (length (volatile_parts c.args.plan.now.by c.args.plan.now.log.entries c.choice.inside.cut)) ps in
    subst P (sym c.as_slice.ensures.value) (new_picks _ _ _ _ _ _ so step)

pub returns-then-step-clause-moved : goal.returns-then-step-clause-moved
returns-then-step-clause-moved c = λ _ n h.
    let so = stands _ _ _ n _ (h ∙ ap (λ (v : ChoiceValue). Some v) (sym c.choice.view_is)) in
    let step = same_step _ _ _ _ _ _ _ c.fates_of.ensures.value c.volatile.ensures.value (c.if-step.ensures.moved refl) in
    let departures = c.departures_of-choice-inside.ensures ∙ ap (map (departure_of (volatile_parts c.args.plan.now.by c.args.plan.now.log.entries c.choice.inside.cut))) c.as_slice.ensures.value in
    stepped_on _ _ _ _ _ _ so step
    ∙ sym (ap (λ (v : ChoiceValue). Some v) (choice_is _ _ _ _ _ _ refl refl refl departures))

pub overflow_add-choice-inside : goal.overflow_add-choice-inside
overflow_add-choice-inside c =
    let at = c.requires.member in
    let so = stands _ _ _ at.0 _ (at.1 ∙ ap (λ (v : ChoiceValue). Some v) (sym c.choice.view_is)) in
    let lt : c.choice.inside.place < length c.cuts.result.now = rw c.cuts.ensures.value (slice_get_within (cuts_of c.args.plan.now.kind c.args.plan.now.log.entries) c.choice.inside.place c.choice.inside.cut so.wanted) in
    omega (arith, lt)

pub returns-in-Some-clause-moved : goal.returns-in-Some-clause-moved
returns-in-Some-clause-moved c = λ _ n h.
    let so = stands _ _ _ n _ (h ∙ ap (λ (v : ChoiceValue). Some v) (sym c.choice.view_is)) in
    let none = same_step _ _ _ _ _ _ _ c.fates_of.ensures.value c.volatile.ensures.value (c.if-step.ensures.last refl) in
    let told = c.in-Some.ensures.lookup in
    let more : slice_get (cuts_of c.args.plan.now.kind c.args.plan.now.log.entries) (c.choice.inside.place + 1) ≡ Some c.in-Some.cut.now =
    ap (λ (ks : List ℕ). slice_get ks (c.choice.inside.place + 1)) (sym c.cuts.ensures.value)
    ∙ slice_get_read c.cuts.result.now (length c.cuts.result.now) (c.choice.inside.place + 1) c.in-Some.cut.now refl told.3.0 told.1 in
    moved_on _ _ _ _ _ _ so none more
    ∙ sym (ap (λ (v : ChoiceValue). Some v) (c.choice-in-Some.view_is ∙ c.of.ensures ∙ ap (choice_of c.args.plan.now.by c.args.plan.now.log.entries (c.choice.inside.place + 1) c.in-Some.cut.now) c.new.ensures))

pub returns-in-None-clause-last : goal.returns-in-None-clause-last
returns-in-None-clause-last c = λ _ n h.
    let so = stands _ _ _ n _ (h ∙ ap (λ (v : ChoiceValue). Some v) (sym c.choice.view_is)) in
    let none = same_step _ _ _ _ _ _ _ c.fates_of.ensures.value c.volatile.ensures.value (c.if-step.ensures.last refl) in
    let told = c.in-None.ensures.lookup in
    let last : slice_get (cuts_of c.args.plan.now.kind c.args.plan.now.log.entries) (c.choice.inside.place + 1) ≡ None =
    ap (λ (ks : List ℕ). slice_get ks (c.choice.inside.place + 1)) (sym c.cuts.ensures.value)
    ∙ slice_get_past c.cuts.result.now (c.choice.inside.place + 1) told.3 in
    at_last _ _ _ _ _ so (h ∙ ap (λ (v : ChoiceValue). Some v) (sym c.choice.view_is)) none last
