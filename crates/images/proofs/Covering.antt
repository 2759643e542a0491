-- What departures leave of a sector hangs on those alone whose parts cover it.
use Rattle.std.proofs.Common.{ℕ, zero, suc, ◌≡◌, ◌+◌, ◌<◌, ◌≤◌, ◌==◌, Bool, true, false, not, ◌&&◌, ◌||◌, List, [], ◌∷◌, length, map, get_or, slice_get, Some, None, refl, sym, subst, ◌∙◌, ap, inl, inr, arith}
use Rattle.std.specs.List.{last_or, list_any, slice_index, range_with_len}
use Rattle.std.specs.Option.{option_map, option_map_or}
use Rattle.std.proofs.lemmas.Bool.Decides.{nat_tests}
use Rattle.std.proofs.lemmas.Bool.{cases_lt}
use Rattle.std.proofs.lemmas.Option.{slice_get_past, slice_get-map, slice_get_cases, slice_get_within, slice_get-get_or, get_or_from_slice_get, same_Some}
use Rattle.std.proofs.lemmas.List.Folds.{list_any_at}
use Rattle.std.proofs.lemmas.Bool.{eq-eqb}
use Rattle.logfmt.specs.Bounds.{LogValue, IsLog}
use Rattle.logfmt.specs.Initial.{initial_byte}
use Rattle.epochs.specs.declared.unit.Unit.{Unit as LogUnit}
use Rattle.epochs.specs.Plan.{IsUnit}
use Rattle.epochs.specs.Units.{unit_of, units_before, unit_content}
use Rattle.epochs.specs.Touching.{covers, touching}
use Rattle.epochs.specs.Parts.{volatile_parts}
use Rattle.epochs.specs.declared.part.Part.{Part}
use Rattle.epochs.proofs.Touching.{touching_has}
use Rattle.choices.specs.declared.choice.Departure.{Departure}
use Rattle.choices.specs.declared.pick.Pick.{Pick}
use Rattle.choices.specs.Choices.{choice_of, departure_of, nowhere}
use Rattle.choices.specs.Picked.{PickedValue, choice_of_picked}
use Rattle.choices.specs.Picks.{ArePicks, most_fates}
use Rattle.choices.proofs.Passing.{ranked_stands}
use Rattle.images.specs.Images.{is_in, keeps, byte_in, survives, writes, byte_after, sector_after}
use Rattle.images.specs.Table.{AreParts}
use Rattle.images.specs.Covering.{HasCovering, CoveringTells, TouchingTells}
use Rattle.images.specs.Views.{ViewValue, sectors_of, view_of}
use Rattle.images.specs.Whole.{length_view}
use Rattle.images.proofs.Members.{member_parts}
use Rattle.images.proofs.Sectors.{view_there}
use Rattle.images.proofs.Entries.{unit_of_entry}
use Rattle.images.proofs.Rows.{all_units}
use Rattle.images.proofs.Shares.{lies_in}
use Rattle.images.proofs.Tears.{one_sector}
use Rattle.images.proofs.Departing.{filter_within}

abbrev Keeps : Departure → LogUnit → ℕ → Bool
Keeps d u i = not (is_in d.part u) || keeps d.fate d.part.count (byte_in d.part u i)

-- a byte of a unit is lost where one of the departures loses it
lost_there : (ds : List Departure) (u : LogUnit) (i : ℕ) → survives ds i u ≡ false → (j : ℕ) × (d : Departure) × (slice_get ds j ≡ Some d) × (Keeps d u i ≡ false)
unfolding survives
lost_there [] u i lost = absurd (let bad : true ≡ false = lost in cc)
lost_there (d ∷ ds) u i lost =
    let by : (b : Bool) → Keeps d u i ≡ b → (b && survives ds i u) ≡ false → (j : ℕ) × (e : Departure) × (slice_get (d ∷ ds) j ≡ Some e) × (Keeps e u i ≡ false) =
    λ b. elim b as (λ c. Keeps d u i ≡ c → (c && survives ds i u) ≡ false → (j : ℕ) × (e : Departure) × (slice_get (d ∷ ds) j ≡ Some e) × (Keeps e u i ≡ false)) [
      | true ↦ λ e h. let rest = lost_there ds u i h in (suc rest.0, rest.1, rest.2, rest.3)
      | false ↦ λ e h. (0, d, refl, e)
    ] in
    by (Keeps d u i) refl lost

and_lost : (b : Bool) → (b && false) ≡ false
and_lost true = refl
and_lost false = refl

lost_by : (ds : List Departure) (u : LogUnit) (i j : ℕ) (d : Departure) → slice_get ds j ≡ Some d → Keeps d u i ≡ false → survives ds i u ≡ false
unfolding survives
lost_by [] u i j d there lost = absurd (let bad : None ≡ Some d = there in cc)
lost_by (e ∷ ds) u i zero d there lost =
    let same : Some e ≡ Some d = there in
    let is : e ≡ d = cc in
    let here : Keeps e u i ≡ false = ap (λ (x : Departure). Keeps x u i) is ∙ lost in
    ap (λ (b : Bool). b && survives ds i u) here
lost_by (e ∷ ds) u i (suc j) d there lost =
    ap (λ (b : Bool). Keeps e u i && b) (lost_by ds u i j d there lost) ∙ and_lost (Keeps e u i)

is_in_part : (d : Departure) (u : LogUnit) (i : ℕ) → Keeps d u i ≡ false → is_in d.part u ≡ true
is_in_part d u i lost = by (is_in d.part u) refl
  where
    by : (b : Bool) → is_in d.part u ≡ b → b ≡ true
    by true e = refl
    by false e = absurd (let bad : true ≡ false = ap (λ (c : Bool). not c || keeps d.fate d.part.count (byte_in d.part u i)) (sym e) ∙ lost in cc)

covers_unit : (log : LogValue) (ds : List Departure) (u : LogUnit) (n i j : ℕ) (d : Departure) → IsUnit log u → AreParts log ds → slice_get ds j ≡ Some d → u.sector ≡ n
    → Keeps d u i ≡ false → covers d.part n ≡ true
covers_unit log ds u n i j d unit parts there here lost =
    let inside : is_in d.part u ≡ true = is_in_part d u i lost in
    let at = lies_in d.part u inside in
    let low = at.low in
    let high = at.high in
    let place = one_sector log d.part u (parts j d there) unit inside in
    let begin : d.part.sector ≤ n = omega (arith, place, here) in
    let before : n < d.part.sector + d.part.count = omega (arith, place, here, low, high) in
    grind (arith, nat_tests, begin, before)

lost_too : (log : LogValue) (ds es : List Departure) (u : LogUnit) (n i : ℕ) → IsUnit log u → AreParts log ds → u.sector ≡ n → HasCovering ds es n
    → survives ds i u ≡ false → survives es i u ≡ false
lost_too log ds es u n i unit parts here has lost =
    let found = lost_there ds u i lost in
    let d = found.1 in
    let other = has found.0 d found.2 (covers_unit log ds u n i found.0 d unit parts found.2 here found.3) in
    lost_by es u i other.0 d other.1 found.3

survive_alike : (log : LogValue) (ds es : List Departure) (u : LogUnit) (n i : ℕ) → IsUnit log u → AreParts log ds → AreParts log es → u.sector ≡ n
    → HasCovering ds es n → HasCovering es ds n → survives ds i u ≡ survives es i u
survive_alike log ds es u n i unit parts others here has back = by (survives ds i u) (survives es i u) refl refl
  where
    by : (a b : Bool) → survives ds i u ≡ a → survives es i u ≡ b → a ≡ b
    by true true e f = refl
    by false false e f = refl
    by false true e f = sym (lost_too log ds es u n i unit parts here has e) ∙ f
    by true false e f = sym e ∙ lost_too log es ds u n i unit others here back f

writes_alike : (log : LogValue) (ds es : List Departure) (n i : ℕ) (u : LogUnit) → IsUnit log u → AreParts log ds → AreParts log es
    → HasCovering ds es n → HasCovering es ds n → writes ds n i u ≡ writes es n i u
unfolding writes
writes_alike log ds es n i u unit parts others has back = by (u.sector == n) refl
  where
    by : (b : Bool) → (u.sector == n) ≡ b → (b && survives ds i u) ≡ (b && survives es i u)
    by false e = refl
    by true e = survive_alike log ds es u n i unit parts others (grind (arith, nat_tests)) has back

after_alike : (log : LogValue) (cut : ℕ) (ds es : List Departure) (n : ℕ) → IsLog log → cut ≤ length log.entries → AreParts log ds → AreParts log es
    → HasCovering ds es n → HasCovering es ds n
    → sector_after log (units_before log.entries cut) ds n ≡ sector_after log (units_before log.entries cut) es n
unfolding sector_after byte_after
after_alike log cut ds es n bounds le parts others has back =
    ap (λ (f : ℕ → ℕ). map f (range_with_len 0 512))
    (λ j i. ap (λ (vs : List LogUnit). option_map_or (λ (u : LogUnit). slice_index (unit_content log.entries u) i) (last_or None vs) (initial_byte log.initial n i))
    (filter_within (writes ds n i) (writes es n i) (units_before log.entries cut)
    (all_units (λ u. writes ds n i u ≡ writes es n i u) log.entries cut le
    (λ e x p lt there within. writes_alike log ds es n i (unit_of e x p) (unit_of_entry log e x p bounds there within) parts others has back))) j)

pub covering_tells : CoveringTells
covering_tells view others n bounds le parts other_parts has back = elim (cases_lt n view.log.sectors) [
  | inl inside ↦
      let other : ViewValue = record view { departures = others } in
      view_there other n inside
      ∙ ap (λ (s : List ℕ). Some s) (sym (after_alike view.log view.cut view.departures others n bounds le parts other_parts has back))
      ∙ sym (view_there view n inside)
  | inr past ↦
      let other : ViewValue = record view { departures = others } in
      let long : length (sectors_of view) ≡ view.log.sectors = length_view view in
      let other_long : length (sectors_of other) ≡ view.log.sectors = length_view other in
      slice_get_past (sectors_of other) n (omega (arith, past, other_long)) ∙ sym (slice_get_past (sectors_of view) n (omega (arith, past, long)))
]

-- the pick of a departure
of_pick : (vs : List Part) (picks : List Pick) (i : ℕ) (d : Departure) → slice_get (map (departure_of vs) picks) i ≡ Some d
    → (x : Pick) × (slice_get picks i ≡ Some x) × (d ≡ departure_of vs x)
of_pick vs picks i d there =
    let mapped = slice_get-map (departure_of vs) picks i in
    elim (slice_get_cases picks i).1 [
      | inl a ↦
          let here : Some (departure_of vs a.0) ≡ Some d = sym (ap (option_map (departure_of vs)) a.2) ∙ sym mapped ∙ there in
          (a.0, a.2, same_Some d (departure_of vs a.0) (sym here))
      | inr past ↦ absurd (let bad : None ≡ Some d = sym (ap (option_map (departure_of vs)) past.1) ∙ sym mapped ∙ there in cc)
    ]

pick_departs : (vs : List Part) (picks : List Pick) (i : ℕ) (x : Pick) (d : Departure) → slice_get picks i ≡ Some x → d ≡ departure_of vs x
    → slice_get (map (departure_of vs) picks) i ≡ Some d
pick_departs vs picks i x d there is =
    slice_get-map (departure_of vs) picks i ∙ ap (option_map (departure_of vs)) there ∙ ap (λ (e : Departure). Some e) (sym is)

-- a number of the list is told
is_told : (told : List ℕ) (i number : ℕ) → slice_get told i ≡ Some number → list_any (λ (part : ℕ). part == number) told ≡ true
is_told told i number there =
    let same : get_or told i number ≡ number = get_or_from_slice_get told i number number there in
    list_any_at (λ (part : ℕ). part == number) told i number (slice_get_within told i number there) (eq-eqb (get_or told i number) number same)

-- the part of a pick
part_of_pick : (vs : List Part) (x : Pick) → x.part < length vs → slice_get vs x.part ≡ Some (departure_of vs x).part
unfolding departure_of
part_of_pick vs x lt = slice_get-get_or vs x.part nowhere lt

below : (m v i : ℕ) (picks : List Pick) (x : Pick) → ArePicks m v picks → slice_get picks i ≡ Some x → x.part < v
below m v i picks x are there =
    let P : Pick → Type 0 = λ pick. pick.part < v in
    subst P (get_or_from_slice_get picks i x x there) (are i x (slice_get_within picks i x there)).0

pub touching_tells : TouchingTells
unfolding choice_of
touching_tells plan bound tears i j place cut own picks sectors bounds own_is picks_is extends at n there =
    let es = plan.log.entries in
    let vs : List Part = volatile_parts plan.by es cut in
    let told : List ℕ = touching plan.by es cut sectors in
    let first : PickedValue = record { place = place; cut = cut; picks = own } in
    let second : PickedValue = record { place = place; cut = cut; picks = picks } in
    let view : ViewValue = view_of plan (choice_of_picked plan first) in
    let stands = ranked_stands plan bound tears j second picks_is in
    let parts : AreParts plan.log (map (departure_of vs) own) =
    member_parts plan (choice_of_picked plan first) bounds (record { bound = bound; tears = tears; number = i; there = own_is }) in
    let other_parts : AreParts plan.log (map (departure_of vs) picks) =
    member_parts plan (choice_of_picked plan second) bounds (record { bound = bound; tears = tears; number = j; there = picks_is }) in
    let has : HasCovering (map (departure_of vs) own) (map (departure_of vs) picks) n =
    λ k d here covered.
    let x = of_pick vs own k d here in
    let found = extends.has k x.0 x.1 in
    (found.0, pick_departs vs picks found.0 x.0 d found.1 x.2) in
    let back : HasCovering (map (departure_of vs) picks) (map (departure_of vs) own) n =
    λ k d here covered.
    let x = of_pick vs picks k d here in
    elim (extends.others k x.0 x.1) [
      | inl found ↦ (found.0, pick_departs vs own found.0 x.0 d found.1 x.2)
      | inr none ↦
          let part : slice_get vs x.0.part ≡ Some d.part =
          part_of_pick vs x.0 (below (most_fates) (length vs) k picks x.0 stands.most x.1) ∙ ap (λ (e : Departure). Some e.part) (sym x.2) in
          let number = touching_has plan.by es cut sectors x.0.part at n d.part part there covered in
          absurd (let bad : true ≡ false = sym (is_told told number.0 x.0.part number.1) ∙ none in cc)
    ] in
    covering_tells view (map (departure_of vs) picks) n bounds stands.within parts other_parts has back
