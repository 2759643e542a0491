-- The ranked choices of a plan are those of the crash model, in its order.
use Rattle.std.proofs.Common.{ℕ, zero, suc, ◌≡◌, ◌+◌, ◌-◌, ◌<◌, ◌≤◌, ◌⊎◌, Bool, List, [], ◌∷◌, length, map, slice_get, Some, None, refl, sym, ◌∙◌, ap, subst, inl, inr, arith}
use Rattle.std.specs.Option.{option_map}
use Rattle.std.proofs.lemmas.Bool.{cases_lt}
use Rattle.std.proofs.lemmas.List.{length-map}
use Rattle.std.proofs.lemmas.Option.{slice_get-map, slice_get_within, slice_get_cases, same_Some}
use Rattle.base.proofs.Lists.{slice_get-append_left, slice_get-append_right, slice_get_of_append}
use Rattle.logfmt.specs.declared.entry.Entry.{Entry}
use Rattle.epochs.specs.declared.part.By.{By}
use Rattle.epochs.specs.declared.part.Part.{Part}
use Rattle.epochs.specs.Parts.{volatile_parts}
use Rattle.epochs.specs.Cuts.{cuts_of}
use Rattle.epochs.specs.Plan.{PlanValue}
use Rattle.epochs.specs.Laws.{IsVolatile, Precedes as PartPrecedes}
use Rattle.epochs.proofs.Sets.{volatile_is_set}
use Rattle.epochs.proofs.CutSets.{cuts_are_set}
use Rattle.choices.specs.declared.pick.Pick.{Pick}
use Rattle.choices.specs.declared.fate.Fate.{Fate}
use Rattle.choices.specs.declared.choice.Departure.{Departure}
use Rattle.choices.specs.Picks.{fates_of, picks_within}
use Rattle.choices.specs.Laws.{AreRising, IsChoice, Precedes, ListsModel, RankedIsModel}
use Rattle.choices.specs.Choices.{ChoiceValue, departure_of, choice_of, choices_at, choices_over, ranked_choices}
use Rattle.choices.specs.CrashModel.{IsFate, IsAdmissible, DiffersFirst, ChoicePrecedes}
use Rattle.choices.proofs.Departing.{departs_as}
use Rattle.choices.proofs.Following.{in_front}
use Rattle.choices.proofs.Plans.{fates_low, goes, wanted_within}
use Rattle.choices.proofs.Sets.{list_is_set}
use Rattle.choices.proofs.Order.{fate_said, fate_number, never_before, part_index, part_there, fate_there, differs}

map_at : {A B : Type 0} (f : A → B) (xs : List A) (i : ℕ) (y : B) → slice_get (map f xs) i ≡ Some y → (x : A) × (slice_get xs i ≡ Some x) × (y ≡ f x)
map_at f xs i y h = elim (slice_get_cases xs i).1 [
  | inl it ↦ (it.0, it.2, same_Some y (f it.0) (sym h ∙ slice_get-map f xs i ∙ ap (option_map f) it.2))
  | inr past ↦ absurd (let bad : None ≡ Some y = ap (option_map f) (sym past.1) ∙ sym (slice_get-map f xs i) ∙ h in cc)
]

-- one departure of those that rise, and two of them
pick_at : (m a e : ℕ) (ps : List Pick) (i : ℕ) (p : Pick) → AreRising m a e ps → slice_get ps i ≡ Some p → (a ≤ p.part) × (p.part < e) × (p.fate < m)
pick_at m a e [] i p h at = absurd (let bad : None ≡ Some p = at in cc)
pick_at m a e (q ∷ ps) zero p h at =
    let P : Pick → Type 0 = λ x. (a ≤ x.part) × (x.part < e) × (x.fate < m) in
    subst P (same_Some q p at) (h.0, h.1, h.2)
pick_at m a e (q ∷ ps) (suc i) p h at =
    let more = pick_at m (q.part + 1) e ps i p h.3 at in
    (omega (arith, more.0, h.0), more.1, more.2)

picks_at : (m a e : ℕ) (ps : List Pick) (i j : ℕ) (p q : Pick) → AreRising m a e ps → i < j → slice_get ps i ≡ Some p → slice_get ps j ≡ Some q → p.part < q.part
picks_at m a e [] i j p q h lt at_p at_q = absurd (let bad : None ≡ Some p = at_p in cc)
picks_at m a e (x ∷ ps) i zero p q h lt at_p at_q = absurd (omega (arith, lt))
picks_at m a e (x ∷ ps) zero (suc j) p q h lt at_p at_q =
    let first : x ≡ p = same_Some x p at_p in
    let part : x.part ≡ p.part = ap (λ (y : Pick). y.part) first in
    omega (arith, (pick_at m (x.part + 1) e ps j q h.3 at_q).0, part)
picks_at m a e (x ∷ ps) (suc i) (suc j) p q h lt at_p at_q = picks_at m (x.part + 1) e ps i j p q h.3 (omega (arith, lt)) at_p at_q

-- departures rise where they do so two by two
rises : (m a e : ℕ) (ps : List Pick)
    → ((i : ℕ) (p : Pick) → slice_get ps i ≡ Some p → (a ≤ p.part) × (p.part < e) × (p.fate < m))
    → ((i j : ℕ) (p q : Pick) → i < j → slice_get ps i ≡ Some p → slice_get ps j ≡ Some q → p.part < q.part)
    → AreRising m a e ps
rises m a e [] each pairs = tt
rises m a e (x ∷ ps) each pairs =
    let here = each 0 x refl in (
      here.0,
      here.1,
      here.2,
      rises m (x.part + 1) e ps
          (λ i p at.
          let bounds = each (suc i) p at in
          let above : x.part < p.part = pairs 0 (suc i) x p (omega arith) refl at in
          (omega (arith, above), bounds.1, bounds.2))
          (λ i j p q lt at_p at_q. pairs (suc i) (suc j) p q (omega (arith, lt)) at_p at_q),
    )

-- departures by numbers are an admissible choice
admissible : (way : By) (es : List Entry) (k bound : ℕ) (tears : Bool) (ps : List Pick) → k ≤ length es
    → IsChoice (fates_of tears) bound (length (volatile_parts way es k)) ps
    → IsAdmissible way es k bound tears (map (departure_of (volatile_parts way es k)) ps)
admissible way es k bound tears ps le is =
    let us : List Part = volatile_parts way es k in
    let so = volatile_is_set way es k le in
    let few = is.few in
    record {
      few = omega (arith, length-map ps (departure_of us), few);
      volatile = λ i d h.
          let it = map_at (departure_of us) ps i d h in
          let at = pick_at (fates_of tears) 0 (length us) ps i it.0 is.rising it.1 in
          let P : Departure → Type 0 = λ x. IsVolatile way es k x.part in
          subst P (sym it.2) (so.sound it.0.part (departure_of us it.0).part (part_there us it.0 at.1));
      fates = λ i d h.
          let it = map_at (departure_of us) ps i d h in
          let at = pick_at (fates_of tears) 0 (length us) ps i it.0 is.rising it.1 in
          let P : Departure → Type 0 = λ x. IsFate tears x.fate in
          let Q : Fate → Type 0 = λ f. IsFate tears f in
          subst P (sym it.2) (subst Q (sym (fate_there us it.0)) (fate_said tears it.0.fate at.2));
      rising = λ i j c d lt hc hd.
          let left = map_at (departure_of us) ps i c hc in
          let right = map_at (departure_of us) ps j d hd in
          let at_left = pick_at (fates_of tears) 0 (length us) ps i left.0 is.rising left.1 in
          let at_right = pick_at (fates_of tears) 0 (length us) ps j right.0 is.rising right.1 in
          let less : left.0.part < right.0.part = picks_at (fates_of tears) 0 (length us) ps i j left.0 right.0 is.rising lt left.1 right.1 in
          let P : Departure → Departure → Type 0 = λ x y. PartPrecedes x.part y.part in
          subst (λ x. P x d) (sym left.2)
          (subst (λ y. P (departure_of us left.0) y) (sym right.2)
          (so.rising left.0.part right.0.part (departure_of us left.0).part (departure_of us right.0).part less
          (part_there us left.0 at_left.1) (part_there us right.0 at_right.1)));
    }

-- departures have numbers
record Numbers (us : List Part) (m : ℕ) (ds : List Departure) : Type 0 where
  picks : List Pick
  is : map (departure_of us) picks ≡ ds
  within : (i : ℕ) (p : Pick) → slice_get picks i ≡ Some p → (p.part < length us) × (p.fate < m)

within_more : (v m : ℕ) (x : Pick) (ps : List Pick) → (x.part < v) × (x.fate < m)
    → ((i : ℕ) (p : Pick) → slice_get ps i ≡ Some p → (p.part < v) × (p.fate < m))
    → (i : ℕ) (p : Pick) → slice_get (x ∷ ps) i ≡ Some p → (p.part < v) × (p.fate < m)
within_more v m x ps first rest zero p at = let P : Pick → Type 0 = λ y. (y.part < v) × (y.fate < m) in subst P (same_Some x p at) first
within_more v m x ps first rest (suc i) p at = rest i p at

numbers : (us : List Part) (m : ℕ) (ds : List Departure)
    → ((i : ℕ) (d : Departure) → slice_get ds i ≡ Some d → (p : Pick) × (p.part < length us) × (p.fate < m) × (departure_of us p ≡ d))
    → Numbers us m ds
numbers us m [] each = record { picks = []; is = refl; within = λ i p at. absurd (let bad : None ≡ Some p = at in cc) }
numbers us m (d ∷ ds) each =
    let first = each 0 d refl in
    let rest = numbers us m ds (λ i e at. each (suc i) e at) in
    record {
      picks = first.0 ∷ rest.picks;
      is = ap (λ (e : Departure). e ∷ map (departure_of us) rest.picks) first.3 ∙ ap (λ (more : List Departure). d ∷ more) rest.is;
      within = within_more (length us) m first.0 rest.picks (first.1, first.2) rest.within;
    }

-- one volatile part with one of the fates has numbers
number_of : (way : By) (es : List Entry) (k : ℕ) (tears : Bool) (d : Departure) → k ≤ length es → IsVolatile way es k d.part → IsFate tears d.fate
    → (p : Pick) × (p.part < length (volatile_parts way es k)) × (p.fate < fates_of tears) × (departure_of (volatile_parts way es k) p ≡ d)
number_of way es k tears d le volatile fate =
    let us : List Part = volatile_parts way es k in
    let part = (volatile_is_set way es k le).complete d.part volatile in
    let number = fate_number tears d.fate fate in
    let pick : Pick = record { part = part.0; fate = number.0 } in
    (pick, slice_get_within us part.0 d.part part.1, number.1, sym (departs_as us pick d.part d.fate part.1 (sym number.2)))

-- an admissible choice as departures by numbers
by_numbers : (way : By) (es : List Entry) (k bound : ℕ) (tears : Bool) (ds : List Departure) → k ≤ length es → IsAdmissible way es k bound tears ds
    → (ps : List Pick) × IsChoice (fates_of tears) bound (length (volatile_parts way es k)) ps × (map (departure_of (volatile_parts way es k)) ps ≡ ds)
by_numbers way es k bound tears ds le is =
    let us : List Part = volatile_parts way es k in
    let so = volatile_is_set way es k le in
    let it = numbers us (fates_of tears) ds (λ i d at. number_of way es k tears d le (is.volatile i d at) (is.fates i d at)) in
    let there : (i : ℕ) (p : Pick) → slice_get it.picks i ≡ Some p → slice_get ds i ≡ Some (departure_of us p) =
    λ i p at.
    ap (λ xs. slice_get xs i) (sym it.is) ∙ slice_get-map (departure_of us) it.picks i ∙ ap (option_map (departure_of us)) at in
    let pairs : (i j : ℕ) (p q : Pick) → i < j → slice_get it.picks i ≡ Some p → slice_get it.picks j ≡ Some q → p.part < q.part =
    λ i j p q lt at_p at_q.
    part_index way es k us so p.part q.part (departure_of us p).part (departure_of us q).part (part_there us p (it.within i p at_p).0)
    (part_there us q (it.within j q at_q).0) (is.rising i j (departure_of us p) (departure_of us q) lt (there i p at_p) (there j q at_q)) in
    let each : (i : ℕ) (p : Pick) → slice_get it.picks i ≡ Some p → (0 ≤ p.part) × (p.part < length us) × (p.fate < fates_of tears) =
    λ i p at. let within = it.within i p at in (omega arith, within.0, within.1) in
    let few = is.few in (
      it.picks,
      record {
        few = omega (arith, few, ap length it.is, length-map it.picks (departure_of us));
        rising = rises (fates_of tears) 0 (length us) it.picks each pairs;
      },
      it.is,
    )

-- where a choice of the list comes from
pub record Listed (way : By) (es : List Entry) (m b : ℕ) (cuts : List ℕ) (c : ChoiceValue) : Type 0 where
  pub index : ℕ
  pub wanted : slice_get cuts index ≡ Some c.cut
  pub number : ℕ
  pub there : slice_get (picks_within m b (length (volatile_parts way es c.cut))) number ≡ Some c.picks
  pub departs : c.departures ≡ map (departure_of (volatile_parts way es c.cut)) c.picks

listed_at : (way : By) (es : List Entry) (m b : ℕ) (cuts : List ℕ) (place index cut number : ℕ) (picks : List Pick) → slice_get cuts index ≡ Some cut
    → slice_get (picks_within m b (length (volatile_parts way es cut))) number ≡ Some picks
    → Listed way es m b cuts (choice_of way es place cut picks)
unfolding choice_of
listed_at way es m b cuts place index cut number picks wanted there = record { index = index; wanted = wanted; number = number; there = there; departs = refl }

pub listed : (way : By) (es : List Entry) (m b p : ℕ) (cuts : List ℕ) (n : ℕ) (c : ChoiceValue) → 1 ≤ m → slice_get (choices_over way es m b p cuts) n ≡ Some c
    → Listed way es m b cuts c
listed way es m b p cuts n c some h =
    let so = goes way es m b p cuts n c some h in
    let P : ChoiceValue → Type 0 = λ x. Listed way es m b cuts x in
    subst P (sym so.is) (listed_at way es m b cuts (p + so.index) so.index so.cut so.number so.picks so.wanted so.there)

-- each choice of each cut is in the list
over_has : (way : By) (es : List Entry) (m b p : ℕ) (cuts : List ℕ) (i cut r : ℕ) (picks : List Pick) → slice_get cuts i ≡ Some cut
    → slice_get (picks_within m b (length (volatile_parts way es cut))) r ≡ Some picks
    → (n : ℕ) × (place : ℕ) × (slice_get (choices_over way es m b p cuts) n ≡ Some (choice_of way es place cut picks))
unfolding choices_over choices_at
over_has way es m b p [] i cut r picks h at = absurd (let bad : None ≡ Some cut = h in cc)
over_has way es m b p (c ∷ cuts) zero cut r picks h at =
    let same : cut ≡ c = same_Some cut c (sym h) in
    let here : slice_get (picks_within m b (length (volatile_parts way es c))) r ≡ Some picks =
    ap (λ k. slice_get (picks_within m b (length (volatile_parts way es k))) r) (sym same) ∙ at in
    let found : slice_get (choices_at way es m b p c) r ≡ Some (choice_of way es p cut picks) =
    slice_get-map (choice_of way es p c) (picks_within m b (length (volatile_parts way es c))) r ∙ ap (option_map (choice_of way es p c)) here
    ∙ ap (λ k. Some (choice_of way es p k picks)) (sym same) in
    (r, p, in_front (choices_at way es m b p c) (choices_over way es m b (p + 1) cuts) r (choice_of way es p cut picks) found)
over_has way es m b p (c ∷ cuts) (suc i) cut r picks h at =
    let more = over_has way es m b (p + 1) cuts i cut r picks h at in
    (length (choices_at way es m b p c) + more.0, more.1, slice_get-append_right (choices_at way es m b p c) (choices_over way es m b (p + 1) cuts) more.0 ∙ more.2)

-- the order of two choices by their numbers
abbrev NumbersPrecede : ChoiceValue → ChoiceValue → Type 0
NumbersPrecede a b = (a.cut < b.cut) ⊎ ((a.cut ≡ b.cut) × Precedes a.picks b.picks)

-- a choice of one cut
at_cut : (way : By) (es : List Entry) (m b p c n : ℕ) (x : ChoiceValue) → slice_get (choices_at way es m b p c) n ≡ Some x
    → (slice_get (picks_within m b (length (volatile_parts way es c))) n ≡ Some x.picks) × (x.cut ≡ c)
unfolding choices_at choice_of
at_cut way es m b p c n x h =
    let it = map_at (choice_of way es p c) (picks_within m b (length (volatile_parts way es c))) n x h in
    (it.1 ∙ ap (λ (y : ChoiceValue). Some y.picks) (sym it.2), ap (λ (y : ChoiceValue). y.cut) it.2)

over_order : (way : By) (es : List Entry) (m b p : ℕ) (cuts : List ℕ) → 1 ≤ m
    → ((i j k l : ℕ) → i < j → slice_get cuts i ≡ Some k → slice_get cuts j ≡ Some l → k < l)
    → (i j : ℕ) (x y : ChoiceValue) → i < j → slice_get (choices_over way es m b p cuts) i ≡ Some x → slice_get (choices_over way es m b p cuts) j ≡ Some y
    → NumbersPrecede x y
unfolding choices_over
over_order way es m b p [] some up i j x y lt at_x at_y = absurd (let bad : None ≡ Some x = at_x in cc)
over_order way es m b p (c ∷ cuts) some up i j x y lt at_x at_y =
    let first : List ChoiceValue = choices_at way es m b p c in
    let more : List ChoiceValue = choices_over way es m b (p + 1) cuts in
    elim (slice_get_of_append first more j y at_y) [
      | inl first_y ↦
          let in_x : slice_get first i ≡ Some x = sym (slice_get-append_left first more i (omega (arith, lt, first_y.0))) ∙ at_x in
          let left = at_cut way es m b p c i x in_x in
          let right = at_cut way es m b p c j y first_y.1 in
          let v : ℕ = length (volatile_parts way es c) in
          inr (left.1 ∙ sym right.1, (list_is_set m b v).ordered i j x.picks y.picks lt left.0 right.0)
      | inr more_y ↦
          let later = listed way es m b (p + 1) cuts (j - length first) y some more_y.1 in
          elim (slice_get_of_append first more i x at_x) [
            | inl first_x ↦
                let left = at_cut way es m b p c i x first_x.1 in
                let above : c < y.cut = up 0 (suc later.index) c y.cut (omega arith) refl later.wanted in
                inl (omega (arith, left.1, above))
            | inr more_x ↦
                over_order way es m b (p + 1) cuts some (λ a d k l less at_k at_l. up (suc a) (suc d) k l (omega (arith, less)) at_k at_l)
                (i - length first) (j - length first) x y (omega (arith, lt, more_x.0)) more_x.1 more_y.1
          ]
    ]

-- the order of two choices by their numbers is that of the crash model
precedes : (way : By) (es : List Entry) (m b : ℕ) (cuts : List ℕ) (x y : ChoiceValue) → x.cut ≤ length es → Listed way es m b cuts x → Listed way es m b cuts y
    → NumbersPrecede x y → ChoicePrecedes x y
precedes way es m b cuts x y le at_x at_y h = elim h [
  | inl less ↦ inl less
  | inr same ↦
      let us : List Part = volatile_parts way es x.cut in
      let right : y.departures ≡ map (departure_of us) y.picks =
      at_y.departs ∙ ap (λ k. map (departure_of (volatile_parts way es k)) y.picks) (sym same.0) in
      let left : x.departures ≡ map (departure_of us) x.picks = at_x.departs in
      let long_x : length x.departures ≡ length x.picks = ap length left ∙ length-map x.picks (departure_of us) in
      let long_y : length y.departures ≡ length y.picks = ap length right ∙ length-map y.picks (departure_of us) in
      elim same.1 [
        | inl fewer ↦ inr (same.0, inl (omega (arith, fewer, long_x, long_y)))
        | inr before ↦
            let in_x : (i : ℕ) (p : Pick) → slice_get x.picks i ≡ Some p → p.part < length us =
            λ i p at. (pick_at m 0 (length us) x.picks i p ((list_is_set m b (length us)).sound at_x.number x.picks at_x.there).rising at).1 in
            let there_y : slice_get (picks_within m b (length us)) at_y.number ≡ Some y.picks =
            ap (λ k. slice_get (picks_within m b (length (volatile_parts way es k))) at_y.number) same.0 ∙ at_y.there in
            let in_y : (i : ℕ) (p : Pick) → slice_get y.picks i ≡ Some p → p.part < length us =
            λ i p at. (pick_at m 0 (length us) y.picks i p ((list_is_set m b (length us)).sound at_y.number y.picks there_y).rising at).1 in
            let P : List Departure → List Departure → Type 0 = λ cs ds. DiffersFirst cs ds in
            let found = differs way es x.cut us (volatile_is_set way es x.cut le) x.picks y.picks in_x in_y before.1 in
            inr (
              same.0,
              inr (long_x ∙ before.0 ∙ sym long_y, subst (λ cs. P cs y.departures) (sym left) (subst (λ ds. P (map (departure_of us) x.picks) ds) (sym right) found)),
            )
      ]
]

cut_of : (way : By) (es : List Entry) (place cut : ℕ) (picks : List Pick) → (choice_of way es place cut picks).cut ≡ cut
unfolding choice_of
cut_of way es place cut picks = refl

departures_of : (way : By) (es : List Entry) (place cut : ℕ) (picks : List Pick)
    → (choice_of way es place cut picks).departures ≡ map (departure_of (volatile_parts way es cut)) picks
unfolding choice_of
departures_of way es place cut picks = refl

model_lists : (plan : PlanValue) (bound : ℕ) (tears : Bool)
    → ListsModel plan bound tears (choices_over plan.by plan.log.entries (fates_of tears) bound 0 (cuts_of plan.kind plan.log.entries))
model_lists plan bound tears =
    let way : By = plan.by in
    let es : List Entry = plan.log.entries in
    let m : ℕ = fates_of tears in
    let cuts : List ℕ = cuts_of plan.kind es in
    let all : List ChoiceValue = choices_over way es m bound 0 cuts in
    let set = cuts_are_set plan.kind es in
    let from : (n : ℕ) (c : ChoiceValue) → slice_get all n ≡ Some c → Listed way es m bound cuts c =
    λ n c h. listed way es m bound 0 cuts n c (fates_low tears) h in
    let within : (n : ℕ) (c : ChoiceValue) → slice_get all n ≡ Some c → c.cut ≤ length es =
    λ n c h. let at = from n c h in wanted_within plan at.index c.cut at.wanted in
    let ordered : (i j : ℕ) (a b : ChoiceValue) → i < j → slice_get all i ≡ Some a → slice_get all j ≡ Some b → ChoicePrecedes a b =
    λ i j a b lt at_a at_b.
    precedes way es m bound cuts a b (within i a at_a) (from i a at_a) (from j b at_b)
    (over_order way es m bound 0 cuts (fates_low tears) set.rising i j a b lt at_a at_b) in
    record {
      wanted = λ n c h. let at = from n c h in set.sound at.index c.cut at.wanted;
      sound = λ n c h.
          let at = from n c h in
          let P : List Departure → Type 0 = λ ds. IsAdmissible way es c.cut bound tears ds in
          let v : ℕ = length (volatile_parts way es c.cut) in
          subst P (sym at.departs) (admissible way es c.cut bound tears c.picks (within n c h) ((list_is_set m bound v).sound at.number c.picks at.there));
      complete = λ k ds wanted is.
          let cut = set.complete k wanted in
          let by = by_numbers way es k bound tears ds (wanted_within plan cut.0 k cut.1) is in
          let rank = (list_is_set m bound (length (volatile_parts way es k))).complete by.0 by.1 in
          let found = over_has way es m bound 0 cuts cut.0 k rank.0 by.0 cut.1 rank.1 in
          (found.0, choice_of way es found.1 k by.0, found.2, cut_of way es found.1 k by.0, departures_of way es found.1 k by.0 ∙ by.2);
      ordered = ordered;
      once = λ i j a b at_a at_b cut departures. elim (cases_lt i j) [
        | inl less ↦ absurd (never_before a b (ordered i j a b less at_a at_b) cut departures)
        | inr more ↦ elim (cases_lt j i) [
          | inl above ↦ absurd (never_before b a (ordered j i b a above at_b at_a) (sym cut) (sym departures))
          | inr below ↦ omega (arith, more, below)
        ]
      ];
    }

pub ranked_is_model : RankedIsModel
unfolding ranked_choices
ranked_is_model plan bound tears = model_lists plan bound tears
