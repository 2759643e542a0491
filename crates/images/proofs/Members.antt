-- The view of a choice: its cut is one of the log, and its parts are as they are to be.
use Rattle.std.proofs.Common.{ℕ, suc, ◌≡◌, ◌+◌, ◌<◌, ◌≤◌, Bool, true, false, cond, List, [], ◌∷◌, length, slice_get, Some, refl, ap, sym, subst, ◌∙◌, inl, inr, arith}
use Rattle.std.proofs.lemmas.Option.{same_Some}
use Rattle.logfmt.specs.declared.entry.Entry.{Entry}
use Rattle.logfmt.specs.Bounds.{LogValue, IsLog}
use Rattle.epochs.specs.declared.part.By.{By}
use Rattle.epochs.specs.declared.part.Part.{Part}
use Rattle.epochs.specs.declared.unit.Unit.{Unit as LogUnit}
use Rattle.epochs.specs.Units.{epoch_at, marks_at}
use Rattle.epochs.specs.Parts.{part_size}
use Rattle.epochs.specs.Laws.{IsVolatile, Precedes as PartPrecedes}
use Rattle.epochs.specs.Plan.{PlanValue, IsPart}
use Rattle.epochs.proofs.Parts.{parts_apart}
use Rattle.epochs.specs.Cuts.{cuts_of}
use Rattle.choices.specs.Choices.{ChoiceValue, choice_of, ranked_choices}
use Rattle.choices.specs.Picks.{fates_of}
use Rattle.choices.proofs.Plans.{goes, Goes, fates_low, wanted_within}
use Rattle.choices.proofs.CrashModel.{ranked_is_model}
use Rattle.choices.specs.declared.choice.Departure.{Departure}
use Rattle.images.specs.declared.torn.TornSector.{TornSector}
use Rattle.images.specs.Views.{IsMember}
use Rattle.images.specs.Table.{AreParts, AreTorn, DepartOnce, IsView}
use Rattle.images.specs.Images.{is_in, departures_of}
use Rattle.images.proofs.Shares.{lies_in}

-- the cut of a choice of a plan is one of its log
pub member_cut : (plan : PlanValue) (choice : ChoiceValue) → IsMember plan choice → choice.cut ≤ length plan.log.entries
unfolding ranked_choices choice_of
member_cut plan choice is =
    let at : Goes plan.by plan.log.entries (fates_of is.tears) is.bound 0 (cuts_of plan.kind plan.log.entries) is.number choice =
    goes plan.by plan.log.entries (fates_of is.tears) is.bound 0 (cuts_of plan.kind plan.log.entries) is.number choice (fates_low is.tears) is.there in
    let cut : choice.cut ≡ at.cut = ap (λ (c : ChoiceValue). c.cut) at.is in
    omega (arith, cut, wanted_within plan at.index at.cut at.wanted)

-- and its departures are volatile parts of that cut
pub member_departs : (plan : PlanValue) (choice : ChoiceValue) → IsMember plan choice
    → (i : ℕ) (d : Departure) → slice_get choice.departures i ≡ Some d → IsVolatile plan.by plan.log.entries choice.cut d.part
member_departs plan choice is i d there = ((ranked_is_model plan is.bound is.tears).sound is.number choice is.there).volatile i d there

-- parts of which one comes before the other have no unit in common
other_part : (way : By) (es : List Entry) (k : ℕ) (a b : Part) (u : LogUnit) → IsVolatile way es k a → IsVolatile way es k b → PartPrecedes a b
    → is_in a u ≡ true → is_in b u ≡ false
other_part way es k a b u one two less same =
    let at = lies_in a u same in
    let entry = at.entry in
    let none : is_in b u ≡ true → ⊥ =
    λ own.
    let other = lies_in b u own in
    let again = other.entry in
    elim less [
      | inl earlier ↦ omega (arith, earlier, entry, again)
      | inr before ↦
          let x : Entry = two.entry in
          let mine : one.entry ≡ x = same_Some one.entry x (sym one.there ∙ ap (slice_get es) before.0 ∙ two.there) in
          let apart = parts_apart way x a.place b.place a.count b.count (one.count ∙ ap (part_size way) mine) two.count two.some two.inside before.1 in
          let low = other.low in
          let high = at.high in
          omega (arith, apart, low, high)
    ] in
    let by : (c : Bool) → is_in b u ≡ c → is_in b u ≡ false =
    λ c. elim c as (λ v. is_in b u ≡ v → is_in b u ≡ false) [ true ↦ λ e. absurd (none e) | false ↦ λ e. e ] in
    by (is_in b u) refl

none_of : (ds : List Departure) (u : LogUnit) → ((i : ℕ) (d : Departure) → slice_get ds i ≡ Some d → is_in d.part u ≡ false) → departures_of ds u ≡ []
unfolding departures_of
none_of [] u other = refl
none_of (d ∷ ds) u other =
    ap (λ c. cond c (d ∷ departures_of ds u) (departures_of ds u)) (other 0 d refl) ∙ none_of ds u (λ i e there. other (suc i) e there)

rise_once : (way : By) (es : List Entry) (k : ℕ) (ds : List Departure)
    → ((i : ℕ) (d : Departure) → slice_get ds i ≡ Some d → IsVolatile way es k d.part)
    → ((i j : ℕ) (c d : Departure) → i < j → slice_get ds i ≡ Some c → slice_get ds j ≡ Some d → PartPrecedes c.part d.part)
    → DepartOnce ds
unfolding departures_of
rise_once way es k [] volatile rising u = omega arith
rise_once way es k (d ∷ ds) volatile rising u =
    let by : (b : Bool) → is_in d.part u ≡ b → length (cond b (d ∷ departures_of ds u) (departures_of ds u)) ≤ 1 =
    λ b. elim b as (λ c. is_in d.part u ≡ c → length (cond c (d ∷ departures_of ds u) (departures_of ds u)) ≤ 1) [
      | true ↦ λ own.
          let none = none_of ds u (λ i e there.
          other_part way es k d.part e.part u (volatile 0 d refl) (volatile (suc i) e there) (rising 0 (suc i) d e (omega arith) refl there) own) in
          let long : length (d ∷ departures_of ds u) ≡ 1 = ap (λ (es : List Departure). length (d ∷ es)) none in
          omega (arith, long)
      | false ↦ λ e.
          rise_once way es k ds (λ i c there. volatile (suc i) c there)
          (λ i j a c lt first second. rising (suc i) (suc j) a c (omega (arith, lt)) first second) u
    ] in
    by (is_in d.part u) refl

-- in a choice each unit departs at most once
pub member_once : (plan : PlanValue) (choice : ChoiceValue) → IsMember plan choice → DepartOnce choice.departures
member_once plan choice is =
    let model = (ranked_is_model plan is.bound is.tears).sound is.number choice is.there in
    rise_once plan.by plan.log.entries choice.cut choice.departures model.volatile model.rising

-- a volatile part is one of the log
pub volatile_part : (way : By) (log : LogValue) (k : ℕ) (p : Part) → IsLog log → IsVolatile way log.entries k p → IsPart log p
volatile_part way log k p is at =
    let some = at.some in
    let inside = at.inside in
    let sector = at.sector in
    let on : at.entry.sector + at.entry.count ≤ log.sectors = (is.entries p.entry at.entry at.there).device (omega (arith, some, inside)) in
    record { entry = at.entry; there = at.there; some = some; inside = inside; sector = sector; device = omega (arith, on, inside, sector) }

pub member_parts : (plan : PlanValue) (choice : ChoiceValue) → IsLog plan.log → IsMember plan choice → AreParts plan.log choice.departures
member_parts plan choice bounds is i d there = volatile_part plan.by plan.log choice.cut d.part bounds (member_departs plan choice is i d there)

-- the parts of a view, as they are made
pub shows_view : (log planned : LogValue) (cut : ℕ) (own made : List Departure) (torn : List TornSector) (sectors epoch marks : ℕ)
    → IsLog log → planned ≡ log → cut ≤ length log.entries → AreParts log made → AreTorn log cut made torn → own ≡ made
    → sectors ≡ log.sectors → epoch ≡ epoch_at planned.entries cut → marks ≡ marks_at planned.entries cut → epoch ≤ 65536 → marks ≤ 65536
    → IsView (record { log = log; cut = cut; departures = own }) torn (record { sectors = sectors; epoch = epoch; marks = marks })
shows_view log planned cut own made torn sectors epoch marks bounds same within volatile owned is size e m small few =
    let epochs : epoch ≡ epoch_at log.entries cut = e ∙ ap (λ (l : LogValue). epoch_at l.entries cut) same in
    let passed : marks ≡ marks_at log.entries cut = m ∙ ap (λ (l : LogValue). marks_at l.entries cut) same in
    let P : List Departure → Type 0 = λ ds. AreParts log ds in
    let Q : List Departure → Type 0 = λ ds. AreTorn log cut ds torn in
    record {
      bounds = bounds;
      within = within;
      departs = subst P (sym is) volatile;
      owned = subst Q (sym is) owned;
      told = λ i. record { sectors = size i; epoch = epochs i; marks = passed i };
      fits = record { epoch = small; marks = few };
    }
