-- Choices of a plan, and those where nothing departs.
use Rattle.std.proofs.Common.{ℕ, suc, ◌≡◌, ◌<◌, ◌≤◌, Bool, All, List, [], ◌∷◌, length, map, slice_get, None, Some, refl, sym, ◌∙◌, ap, subst, arith}
use Rattle.base.specs.Sizes.{most_sectors}
use Rattle.logfmt.specs.Bounds.{LogValue, IsLog}
use Rattle.epochs.specs.Plan.{PlanValue}
use Rattle.choices.specs.declared.choice.Departure.{Departure}
use Rattle.choices.specs.Choices.{ChoiceValue, ranked_choices}
use Rattle.choices.specs.Named.{name_of, IsNamed, NoneIsNamed}
use Rattle.choices.proofs.CrashModel.{ranked_is_model}
use Rattle.images.specs.Views.{ViewValue, IsMember, view_of, sectors_of}
use Rattle.images.specs.Laws.{ImagesAreDevices}
use Rattle.images.proofs.Members.{member_cut as cut_of_member}
use Rattle.choices.specs.Sums.{StartsValue}
use Rattle.losses.specs.declared.why.group.FailingGroup.{FailingGroup}
use Rattle.losses.specs.WhyText.{IsNumbered}

pub member_of : (plan : PlanValue) (bound : ℕ) (tears : Bool) (n : ℕ) (c : ChoiceValue) → slice_get (ranked_choices plan bound tears) n ≡ Some c → IsMember plan c
member_of plan bound tears n c there = record { bound = bound; tears = tears; number = n; there = there }

pub named_member : (plan : PlanValue) (bound : ℕ) (tears : Bool) (cut : ℕ) (c : ChoiceValue) → IsNamed plan bound tears cut [] c → IsMember plan c
named_member plan bound tears cut c is = record { bound = bound; tears = tears; number = is.number; there = is.there }

pub member_cut : (plan : PlanValue) (choice : ChoiceValue) → IsMember plan choice → choice.cut ≤ length plan.log.entries
member_cut = cut_of_member

-- at the cut of each choice there is one where nothing departs
pub nothing_there : (plan : PlanValue) (bound : ℕ) (tears : Bool) (c : ChoiceValue) → IsMember plan c → NoneIsNamed plan bound tears c.cut [] → ⊥
nothing_there plan bound tears c is lacks =
    let found = (ranked_is_model plan bound tears).complete c.cut [] ((ranked_is_model plan is.bound is.tears).wanted is.number c is.there)
    (record {
      few = omega arith;
      volatile = λ i d there. absurd (let bad : None ≡ Some d = there in cc);
      fates = λ i d there. absurd (let bad : None ≡ Some d = there in cc);
      rising = λ i j d e less there other. absurd (let bad : None ≡ Some d = there in cc);
    }) in
    lacks.none found.1 (record { number = found.0; there = found.2; at = found.3; named = ap (map name_of) found.4 })

-- departures without names are none
pub no_names : (ds : List Departure) → map name_of ds ≡ [] → ds ≡ []
no_names [] e = refl
no_names (d ∷ ds) e = absurd (let bad : suc (length (map name_of ds)) ≡ 0 = ap length e in omega (arith, bad))

-- an image of a log has no more sectors than a device may have
pub small : (plan history : PlanValue) (l : LogValue) (view : ViewValue) (c : ChoiceValue) → ImagesAreDevices → IsLog l → plan.log ≡ l → history ≡ plan → view ≡ view_of history c
    → length (sectors_of view) ≤ most_sectors
small plan history l view c devices bounds own same is =
    let log : view.log ≡ l = ap (λ (v : ViewValue). v.log) is ∙ ap (λ (p : PlanValue). p.log) same ∙ own in
    let P : LogValue → Type 0 = λ x. IsLog x in
    let fits = subst P (sym log) bounds in
    let count = (devices view fits).count in
    let most = fits.device in
    omega (arith, count, most)

-- the images of groups are those of the run
pub images_within : (s : StartsValue) (lines : ℕ) (gs : List FailingGroup) → All (IsNumbered s lines) gs → All (λ (g : FailingGroup). g.image < length (ranked_choices s.plan s.bound s.tears)) gs
images_within s lines gs are = λ k d lt. (are k d lt).image
