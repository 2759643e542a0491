-- An entry that a run makes is true: departures that no sector of its footprint tells make no difference to the checker.
use Rattle.std.proofs.Common.{ℕ, zero, suc, ◌≡◌, ◌==◌, ◌≤◌, IsTrue, not, Bool, true, false, List, [], ◌∷◌, ◌⊎◌, length, get_or, slice_get, Option, Some, None, refl, sym, ap, ◌∙◌, subst, inl, inr}
use Rattle.std.specs.List.{list_any, slice_index_or}
use Rattle.std.proofs.lemmas.Option.{same_Some, slice_get-get_or}
use Rattle.logfmt.specs.Bounds.{IsLog}
use Rattle.epochs.specs.Cuts.{cuts_of}
use Rattle.epochs.specs.Plan.{PlanValue}
use Rattle.epochs.specs.Touching.{touching}
use Rattle.choices.specs.declared.pick.Pick.{Pick}
use Rattle.choices.specs.Choices.{ChoiceValue, choice_of, ranked_choices}
use Rattle.choices.proofs.Plans.{stands}
use Rattle.choices.specs.Picked.{PickedValue, IsRanked, Extends, choice_of_picked, marked_picks, picked_of}
use Rattle.images.specs.Views.{ViewValue, view_of, sectors_of, context_at}
use Rattle.images.proofs.Devices.{images_are_devices}
use Rattle.checker.specs.Checker.{CheckerValue, judgement}
use Rattle.machine.specs.Outcome.{Ending}
use Rattle.helpers.specs.Footprint.{FootprintValue}
use Rattle.checker.specs.Footprints.{AgreeingAreJudgedAlike, AgreeAt, kept_footprint}
use Rattle.choices.proofs.Passing.{ranked_wanted}
use Rattle.images.proofs.Covering.{touching_tells}
use Rattle.checker.proofs.Alike.{judged_alike}
use Rattle.machine.proofs.Footprints.{footprint_tells}
use Rattle.machine.proofs.Guarded as guarded
use Rattle.workers.specs.Failing.{Subject, ending_at}
use Rattle.workers.specs.Reuse.{IsKnown, NoneTold, told_or}

-- Marked departures are some of all, and the others aren't told.

marked_from : (marks : List Bool) (picks : List Pick) (i : ℕ) (x : Pick) → slice_get (marked_picks marks picks) i ≡ Some x → (j : ℕ) × (slice_get picks j ≡ Some x)
marked_from [] picks i x there = absurd (let bad : None ≡ Some x = there in cc)
marked_from (b ∷ marks) [] i x there = absurd (let bad : None ≡ Some x = there in cc)
marked_from (true ∷ marks) (p ∷ picks) zero x there = (0, there)
marked_from (true ∷ marks) (p ∷ picks) (suc i) x there = let rest = marked_from marks picks i x there in (suc rest.0, rest.1)
marked_from (false ∷ marks) (p ∷ picks) i x there = let rest = marked_from marks picks i x there in (suc rest.0, rest.1)

marked_to : (marks : List Bool) (picks : List Pick) (i : ℕ) (x : Pick) → slice_index_or marks i false ≡ true → slice_get picks i ≡ Some x
    → (j : ℕ) × (slice_get (marked_picks marks picks) j ≡ Some x)
marked_to [] picks i x mark there = absurd (let bad : false ≡ true = mark in cc)
marked_to (b ∷ marks) [] i x mark there = absurd (let bad : None ≡ Some x = there in cc)
marked_to (true ∷ marks) (p ∷ picks) zero x mark there = (0, there)
marked_to (false ∷ marks) (p ∷ picks) zero x mark there = absurd (let bad : false ≡ true = mark in cc)
marked_to (true ∷ marks) (p ∷ picks) (suc i) x mark there = let rest = marked_to marks picks i x mark there in (suc rest.0, rest.1)
marked_to (false ∷ marks) (p ∷ picks) (suc i) x mark there = marked_to marks picks i x mark there

extends : (marks : List Bool) (picks : List Pick) (told : List ℕ) → NoneTold (Some told) marks picks → Extends (marked_picks marks picks) told picks
extends marks picks told none = record {
  has = marked_from marks picks;
  others = λ i x there. by i x there (slice_index_or marks i false) refl;
}
  where
    by : (i : ℕ) (x : Pick) → slice_get picks i ≡ Some x → (b : Bool) → slice_index_or marks i false ≡ b
        → ((j : ℕ) × (slice_get (marked_picks marks picks) j ≡ Some x)) ⊎ (list_any (λ (part : ℕ). part == x.part) told ≡ false)
    by i x there true mark = inl (marked_to marks picks i x mark there)
    by i x there false mark = inr (none i x there mark)

-- where each may be told all are marked
whole : (marks : List Bool) (picks : List Pick) → NoneTold None marks picks → marked_picks marks picks ≡ picks
whole [] [] none = refl
whole [] (p ∷ picks) none = absurd (let bad : true ≡ false = none 0 p refl refl in cc)
whole (b ∷ marks) [] none = refl
whole (true ∷ marks) (p ∷ picks) none = ap (λ (rest : List Pick). p ∷ rest) (whole marks picks (λ i x there. none (suc i) x there))
whole (false ∷ marks) (p ∷ picks) none = absurd (let bad : true ≡ false = none 0 p refl refl in cc)

-- the view of a choice of a subject
abbrev view_at : Subject → PickedValue → ViewValue
view_at s p = view_of s.plan (choice_of_picked s.plan p)

-- what is told covers a sector that was kept of the run on a choice
abbrev pub AreTold : Subject → CheckerValue → ℕ → PickedValue → Option (List ℕ) → Type 0
AreTold s checker room own told = (parts : List ℕ) → told ≡ Some parts → (sectors : List ℕ)
    × ((kept_footprint room checker (sectors_of (view_at s own)) (context_at s.plan.log (choice_of_picked s.plan own).cut)).sectors ≡ Some sectors)
    × (parts ≡ touching s.plan.by s.plan.log.entries own.cut sectors)

-- the images of two choices of a cut, of which one extends the other, agree at the sectors that were kept
agree : (s : Subject) (i j place cut : ℕ) (own picks : List Pick) (sectors : List ℕ) → IsLog s.plan.log
    → IsRanked s.plan s.bound s.tears i (record { place = place; cut = cut; picks = own }) → IsRanked s.plan s.bound s.tears j (record { place = place; cut = cut; picks = picks })
    → Extends own (touching s.plan.by s.plan.log.entries cut sectors) picks
    → AgreeAt sectors (sectors_of (view_at s (record { place = place; cut = cut; picks = own }))) (sectors_of (view_at s (record { place = place; cut = cut; picks = picks })))
agree s i j place cut own picks sectors bounds first second more =
    let one : ViewValue = view_at s (record { place = place; cut = cut; picks = own }) in
    let other : ViewValue = view_at s (record { place = place; cut = cut; picks = picks }) in
    let shows = images_are_devices one bounds in
    let others = images_are_devices other bounds in
    record {
      count = shows.count ∙ sym others.count;
      whole = shows.long;
      others = others.long;
      same = λ k d lt. sym (touching_tells s.plan s.bound s.tears i j place cut own picks sectors bounds first second more k (get_or sectors k d) (slice_get-get_or sectors k d lt));
    }

-- choices at one place are at one cut
one_cut : (s : Subject) (n m : ℕ) (own p : PickedValue) → IsRanked s.plan s.bound s.tears n own → IsRanked s.plan s.bound s.tears m p → p.place ≡ own.place → p.cut ≡ own.cut
one_cut s n m own p first second place =
    same_Some p.cut own.cut
    (sym (ranked_wanted s.plan s.bound s.tears m p second) ∙ ap (slice_get (cuts_of s.plan.kind s.plan.log.entries)) place ∙ ranked_wanted s.plan s.bound s.tears n own first)

-- it ends alike on each choice for which the entry holds
alike : AgreeingAreJudgedAlike → (s : Subject) (checker : CheckerValue) (room n m : ℕ) (own : PickedValue) (picks : List Pick) (marks : List Bool) (told : Option (List ℕ))
    → IsLog s.plan.log → AreTold s checker room own told
    → IsRanked s.plan s.bound s.tears n own → IsRanked s.plan s.bound s.tears m (record own { picks = picks })
    → marked_picks marks picks ≡ own.picks → NoneTold told marks picks
    → ending_at s (choice_of_picked s.plan (record own { picks = picks })) checker ≡ ending_at s (choice_of_picked s.plan own) checker
unfolding ending_at choice_of
alike law s checker room n m own picks marks None bounds are first second same none =
    let all : picks ≡ own.picks = sym (whole marks picks none) ∙ same in
    ap (λ (ps : List Pick). ending_at s (choice_of_picked s.plan (record own { picks = ps })) checker) all
alike law s checker room n m own picks marks (Some parts) bounds are first second same none =
    let found = are parts refl in
    let extended : Extends own.picks (touching s.plan.by s.plan.log.entries own.cut found.0) picks =
    subst (λ (ps : List ℕ). Extends own.picks ps picks) found.2
    (subst (λ (ps : List Pick). Extends ps parts picks) same (extends marks picks parts none)) in
    let agreed = agree s n m own.place own.cut own.picks picks found.0 bounds first second extended in
    (law checker (sectors_of (view_at s own)) (sectors_of (view_at s (record own { picks = picks }))) (context_at s.plan.log own.cut) room found.0 found.1 agreed).ends

pub learned : AgreeingAreJudgedAlike → (s : Subject) (checker : CheckerValue) (room n : ℕ) (own : PickedValue) (told : Option (List ℕ))
    → IsLog s.plan.log → IsRanked s.plan s.bound s.tears n own → AreTold s checker room own told
    → IsKnown s own.place checker (record { picks = own.picks; ending = ending_at s (choice_of_picked s.plan own) checker; told = told })
learned law s checker room n own told bounds ranked_choices are m p marks place second holds =
    let cut : p.cut ≡ own.cut = one_cut s n m own p ranked_choices second place in
    let is : p ≡ record own { picks = p.picks } = λ i. record { place = place i; cut = cut i; picks = p.picks } in
    ap (λ (q : PickedValue). ending_at s (choice_of_picked s.plan q) checker) is
    ∙ alike law s checker room n m own p.picks marks told bounds are ranked_choices (subst (IsRanked s.plan s.bound s.tears m) is second) holds.own holds.others

-- the cut of a choice is one of the log
pub cut_within : (plan : PlanValue) (bound : ℕ) (tears : Bool) (n : ℕ) (choice : ChoiceValue) → slice_get (ranked_choices plan bound tears) n ≡ Some choice → choice.cut ≤ length plan.log.entries
cut_within plan bound tears n choice there = (stands plan bound tears n choice there).within

-- the choice of marked departures is one of the plan's
pub chosen_there : (s : Subject) (plan : PlanValue) (picked : PickedValue) (choice : ChoiceValue) → plan ≡ s.plan → ((n : ℕ) × IsRanked s.plan s.bound s.tears n picked)
    → ((bound : ℕ) (tears : Bool) (n : ℕ) → IsRanked plan bound tears n picked → (m : ℕ) × (slice_get (ranked_choices plan bound tears) m ≡ Some choice))
    → (m : ℕ) × (slice_get (ranked_choices plan s.bound s.tears) m ≡ Some choice)
chosen_there s plan picked choice is member leads = leads s.bound s.tears member.0 (subst (λ (q : PlanValue). IsRanked q s.bound s.tears member.0 picked) (sym is) member.1)

-- a run on the image of the marked departures of a choice, and what was told of its footprint
pub record IsLearned (s : Subject) (checker : CheckerValue) (picked made : PickedValue) (marks : List Bool) (choice : ChoiceValue) (view : ViewValue)
    (footprint : FootprintValue) (ending : Ending) (told : Bool) (more : List ℕ) : Type 0 where
  pub plan : PlanValue
  pub plan_is : plan ≡ s.plan
  pub history : PlanValue
  pub history_is : history ≡ s.plan
  pub number : ℕ
  pub there : slice_get (ranked_choices plan s.bound s.tears) number ≡ Some choice
  pub choice_is : choice ≡ choice_of_picked plan (record picked { picks = marked_picks marks picked.picks })
  pub made_is : made ≡ picked_of choice
  pub view_is : view ≡ view_of history choice
  pub bounds : IsLog view.log
  pub ends : ending ≡ judgement checker (sectors_of view) (context_at view.log view.cut)
  pub looks : footprint ≡ kept_footprint 32 checker (sectors_of view) (context_at view.log view.cut)
  pub cut : ℕ
  pub cut_is : cut ≡ choice.cut
  pub cover : IsTrue told → (sectors : List ℕ) × (footprint.sectors ≡ Some sectors) × (more ≡ touching plan.by plan.log.entries cut sectors)

-- the choice of the marked departures
abbrev pub own_of : PickedValue → List Bool → PickedValue
own_of picked marks = record picked { picks = marked_picks marks picked.picks }

-- its numbers are those of the marked departures
pub made_picks : (plan : PlanValue) (picked made : PickedValue) (marks : List Bool) (choice : ChoiceValue) → choice ≡ choice_of_picked plan (own_of picked marks)
    → made ≡ picked_of choice → marked_picks marks picked.picks ≡ made.picks
unfolding choice_of
made_picks plan picked made marks choice is made_is =
    sym (ap (λ (p : PickedValue). p.picks) made_is ∙ ap (λ (c : ChoiceValue). c.picks) is)

chosen : (s : Subject) (plan : PlanValue) (own : PickedValue) (choice : ChoiceValue) → plan ≡ s.plan → choice ≡ choice_of_picked plan own → choice ≡ choice_of_picked s.plan own
chosen s plan own choice plan_is is = is ∙ ap (λ (q : PlanValue). choice_of_picked q own) plan_is

covered : (s : Subject) (checker : CheckerValue) (picked made : PickedValue) (marks : List Bool) (choice : ChoiceValue) (view : ViewValue) (footprint : FootprintValue) (ending : Ending)
    (told : Bool) (more : List ℕ) → (is : IsLearned s checker picked made marks choice view footprint ending told more)
    → view ≡ view_at s (own_of picked marks) → choice ≡ choice_of_picked s.plan (own_of picked marks) → AreTold s checker 32 (own_of picked marks) (told_or (not told) more)
unfolding choice_of
covered s checker picked made marks choice view footprint ending false more is view_is choice_is parts those = absurd (let bad : None ≡ Some parts = those in cc)
covered s checker picked made marks choice view footprint ending true more is view_is choice_is parts those =
    let found = is.cover refl in
    let looked : footprint ≡ kept_footprint 32 checker (sectors_of (view_at s (own_of picked marks))) (context_at s.plan.log (choice_of_picked s.plan (own_of picked marks)).cut) =
    is.looks ∙ ap (λ (v : ViewValue). kept_footprint 32 checker (sectors_of v) (context_at v.log v.cut)) view_is in
    let at : is.cut ≡ picked.cut = is.cut_is ∙ ap (λ (c : ChoiceValue). c.cut) choice_is in (
      found.0,
      ap (λ (f : FootprintValue). f.sectors) (sym looked) ∙ found.1,
      sym (same_Some more parts those) ∙ found.2
          ∙ ap (λ (q : PlanValue). touching q.by q.log.entries is.cut found.0) is.plan_is ∙ ap (λ (k : ℕ). touching s.plan.by s.plan.log.entries k found.0) at,
    )

-- so its entry is true
pub learned_by : (s : Subject) (checker : CheckerValue) (picked made : PickedValue) (marks : List Bool) (choice : ChoiceValue) (view : ViewValue) (footprint : FootprintValue)
    (ending : Ending) (told : Bool) (more : List ℕ) → IsLearned s checker picked made marks choice view footprint ending told more
    → IsKnown s picked.place checker (record { picks = made.picks; ending = ending; told = told_or (not told) more })
unfolding ending_at
learned_by s checker picked made marks choice view footprint ending told more is m p others place second holds =
    let own : PickedValue = own_of picked marks in
    let choice_is : choice ≡ choice_of_picked s.plan own = chosen s is.plan own choice is.plan_is is.choice_is in
    let view_is : view ≡ view_at s own = is.view_is ∙ ap (λ (q : PlanValue). view_of q choice) is.history_is ∙ ap (view_of s.plan) choice_is in
    let bounds : IsLog s.plan.log = subst (λ (v : ViewValue). IsLog v.log) view_is is.bounds in
    let first : IsRanked s.plan s.bound s.tears is.number own =
    ap (λ (q : PlanValue). slice_get (ranked_choices q s.bound s.tears) is.number) (sym is.plan_is) ∙ is.there ∙ ap (λ (c : ChoiceValue). Some c) choice_is in
    let ends : ending ≡ ending_at s (choice_of_picked s.plan own) checker =
    is.ends ∙ ap (λ (v : ViewValue). judgement checker (sectors_of v) (context_at v.log v.cut)) view_is in
    learned (judged_alike footprint_tells guarded.footprint_tells) s checker 32 is.number own (told_or (not told) more) bounds first
    (covered s checker picked made marks choice view footprint ending told more is view_is choice_is)
    m p others place second
    (record { own = holds.own ∙ sym (made_picks is.plan picked made marks choice is.choice_is is.made_is); others = holds.others })
    ∙ sym ends
