use Rattle.std.proofs.Common.{ℕ, List, refl, sym, ◌∙◌, ap, arith, subst, length, slice_get, Some, None, ◌≡◌, ◌<◌, ◌+◌}
use Rattle.std.proofs.lemmas.Option.{slice_get_within, slice_get_past, slice_get_read}
use Rattle.epochs.specs.Cuts.{cuts_of}
use Rattle.choices.specs.declared.pick.Pick.{Pick}
use Rattle.choices.specs.Picked.{PickedValue, IsRanked}
use Rattle.choices.proofs.Plans.{same_step}
use Rattle.choices.proofs.Passing.{picked_at, inside_ranked, inside_stands, picked_on, picked_over, picked_last}
use Rattle.choices.proofs.picked.Picked.next.Goals as goal

pub volatile-requires : goal.volatile-requires
volatile-requires c = let at = c.requires.member in (inside_stands c.args.plan.now _ _ at.0 _ _ c.self.view_is at.1).within

pub step-requires-clause-below : goal.step-requires-clause-below
step-requires-clause-below c =
    let at = c.requires.member in
    rw (c.fates_of.ensures.value, c.volatile.ensures.value) (inside_stands c.args.plan.now _ _ at.0 _ _ c.self.view_is at.1).picks

pub returns-then-step-clause-moved : goal.returns-then-step-clause-moved
returns-then-step-clause-moved c = λ _ n h.
    let inside : PickedValue = picked_at c.self.inside.place c.self.inside.cut c.self.inside.picks.items in
    let step = same_step _ _ _ _ _ _ _ c.fates_of.ensures.value c.volatile.ensures.value (c.if-step.ensures.moved refl) in
    picked_on c.args.plan.now _ _ n inside _ (inside_ranked c.args.plan.now _ _ n inside _ c.self.view_is h) step

pub overflow_add-self-inside : goal.overflow_add-self-inside
overflow_add-self-inside c =
    let at = c.requires.member in
    let so = inside_stands c.args.plan.now _ _ at.0 _ _ c.self.view_is at.1 in
    let lt : c.self.inside.place < length c.cuts.result.now = rw c.cuts.ensures.value (slice_get_within (cuts_of c.args.plan.now.kind c.args.plan.now.log.entries) c.self.inside.place c.self.inside.cut so.wanted) in
    omega (arith, lt)

pub returns-in-Some-clause-moved : goal.returns-in-Some-clause-moved
returns-in-Some-clause-moved c = λ _ n h.
    let inside : PickedValue = picked_at c.self.inside.place c.self.inside.cut c.self.inside.picks.items in
    let none = same_step _ _ _ _ _ _ _ c.fates_of.ensures.value c.volatile.ensures.value (c.if-step.ensures.last refl) in
    let told = c.in-Some.ensures.lookup in
    let more : slice_get (cuts_of c.args.plan.now.kind c.args.plan.now.log.entries) (c.self.inside.place + 1) ≡ Some c.in-Some.cut.now =
    ap (λ (ks : List ℕ). slice_get ks (c.self.inside.place + 1)) (sym c.cuts.ensures.value)
    ∙ slice_get_read c.cuts.result.now (length c.cuts.result.now) (c.self.inside.place + 1) c.in-Some.cut.now refl told.3.0 told.1 in
    let P : List Pick → Type 0 = λ ps. IsRanked c.args.plan.now c.args.bound c.args.tears (n + 1) (picked_at (c.self.inside.place + 1) c.in-Some.cut.now ps) in
    subst P (sym c.new.ensures) (picked_over c.args.plan.now _ _ n inside _ (inside_ranked c.args.plan.now _ _ n inside _ c.self.view_is h) none more)

pub returns-in-None-clause-last : goal.returns-in-None-clause-last
returns-in-None-clause-last c = λ _ n h.
    let inside : PickedValue = picked_at c.self.inside.place c.self.inside.cut c.self.inside.picks.items in
    let none = same_step _ _ _ _ _ _ _ c.fates_of.ensures.value c.volatile.ensures.value (c.if-step.ensures.last refl) in
    let told = c.in-None.ensures.lookup in
    let last : slice_get (cuts_of c.args.plan.now.kind c.args.plan.now.log.entries) (c.self.inside.place + 1) ≡ None =
    ap (λ (ks : List ℕ). slice_get ks (c.self.inside.place + 1)) (sym c.cuts.ensures.value)
    ∙ slice_get_past c.cuts.result.now (c.self.inside.place + 1) told.3 in
    picked_last c.args.plan.now _ _ n inside (inside_ranked c.args.plan.now _ _ n inside _ c.self.view_is h) none last
