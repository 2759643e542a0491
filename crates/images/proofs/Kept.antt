-- What of a unit reaches the device, by the fate that departures give it.
use Rattle.std.proofs.Common.{ℕ, suc, ◌≡◌, ◌-◌, ◌<◌, ◌≤◌, Bool, true, false, not, ◌&&◌, ◌||◌, List, [], ◌∷◌, length, take, drop, slice_get, slice_index_or, Option, Some, None, refl, sym, ◌∙◌, ap, arith}
use Rattle.std.proofs.lemmas.List.{take_all}
use Rattle.epochs.specs.declared.unit.Unit.{Unit as LogUnit}
use Rattle.choices.specs.declared.fate.Fate.{Fate}
use Rattle.choices.specs.declared.fate.Fate.TheVariants as fate
use Rattle.choices.specs.declared.choice.Departure.{Departure}
use Rattle.images.specs.Images.{is_in, keeps, byte_in, survives}
use Rattle.images.specs.Table.{first_fate, share, fate_at, leaves, reaches}
use Rattle.images.proofs.Shares.{kept_by, keeps_by_share}

pub and_false : (b : Bool) → (b && false) ≡ false
and_false true = refl
and_false false = refl

-- the search for what becomes of a unit: no departure is left, the first takes something of it, or it takes nothing
pub no_fate : (ds : List Departure) (u : LogUnit) → length ds < 1 → None ≡ fate_at ds u
unfolding fate_at
no_fate [] u none = refl
no_fate (d ∷ ds) u none = absurd (omega (arith, none))

pub own_fate : (ds : List Departure) (d : Departure) (u : LogUnit) (f : Fate) → 1 ≤ length ds → d ≡ slice_index_or ds 0 d → share d u ≡ Some f
    → Some f ≡ fate_at ds u
unfolding fate_at
own_fate [] d u f some is own = absurd (omega (arith, some))
own_fate (x ∷ xs) d u f some is own =
    sym (ap (λ o. first_fate o (fate_at xs u)) own) ∙ ap (λ (e : Departure). first_fate (share e u) (fate_at xs u)) is

pub other_fate : (ds : List Departure) (d : Departure) (u : LogUnit) → 1 ≤ length ds → d ≡ slice_index_or ds 0 d → share d u ≡ None
    → fate_at (take (length ds - 1) (drop 1 ds)) u ≡ fate_at ds u
unfolding fate_at
other_fate [] d u some is other = absurd (omega (arith, some))
other_fate (x ∷ xs) d u some is other =
    let others : take (length (x ∷ xs) - 1) xs ≡ xs = take_all (length (x ∷ xs) - 1) xs (omega arith) in
    ap (λ es. fate_at es u) others
    ∙ sym (ap (λ o. first_fate o (fate_at xs u)) other) ∙ ap (λ (e : Departure). first_fate (share e u) (fate_at xs u)) is

-- a unit of which nothing departs is whole
pub whole_survives : (ds : List Departure) (u : LogUnit) (i : ℕ) → i < 512 → fate_at ds u ≡ None → survives ds i u ≡ true
unfolding survives fate_at
whole_survives [] u i lt none = refl
whole_survives (d ∷ ds) u i lt none =
    let by : (o : Option Fate) → share d u ≡ o → first_fate o (fate_at ds u) ≡ None → (kept_by o i && survives ds i u) ≡ true =
    λ o. elim o as (λ p. share d u ≡ p → first_fate p (fate_at ds u) ≡ None → (kept_by p i && survives ds i u) ≡ true) [
      | None ↦ λ e h. whole_survives ds u i lt h
      | Some f ↦ λ e h. absurd (let bad : Some f ≡ None = h in cc)
    ] in
    ap (λ b. b && survives ds i u) (keeps_by_share d u i lt) ∙ by (share d u) refl none

-- so a unit of which a byte is lost is in a part that departs
pub lost_departs : (ds : List Departure) (u : LogUnit) (i : ℕ) → survives ds i u ≡ false
    → (j : ℕ) × (d : Departure) × (slice_get ds j ≡ Some d) × (is_in d.part u ≡ true)
unfolding survives
lost_departs [] u i lost = absurd (let bad : true ≡ false = lost in cc)
lost_departs (d ∷ ds) u i lost =
    let K : Bool → Bool = λ c. (not c || keeps d.fate d.part.count (byte_in d.part u i)) && survives ds i u in
    let by : (b : Bool) → is_in d.part u ≡ b → K b ≡ false → (j : ℕ) × (e : Departure) × (slice_get (d ∷ ds) j ≡ Some e) × (is_in e.part u ≡ true) =
    λ b. elim b as (λ c. is_in d.part u ≡ c → K c ≡ false → (j : ℕ) × (e : Departure) × (slice_get (d ∷ ds) j ≡ Some e) × (is_in e.part u ≡ true)) [
      | true ↦ λ e h. (0, d, refl, e)
      | false ↦ λ e h. let rest = lost_departs ds u i h in (suc rest.0, rest.1, rest.2, rest.3)
    ] in
    by (is_in d.part u) refl lost

-- of a unit that is dropped nothing survives
drop_keeps_none : (f : Fate) (i : ℕ) → leaves (Some f) ≡ false → keeps f 1 i ≡ false
drop_keeps_none fate.Drop i h = refl
drop_keeps_none (fate.Head t) i h = absurd (let bad : true ≡ false = h in cc)
drop_keeps_none (fate.Tail t) i h = absurd (let bad : true ≡ false = h in cc)

pub dropped_lost : (ds : List Departure) (u : LogUnit) (i : ℕ) → i < 512 → reaches ds u ≡ false → survives ds i u ≡ false
unfolding survives reaches fate_at
dropped_lost [] u i lt none = absurd (let bad : true ≡ false = none in cc)
dropped_lost (d ∷ ds) u i lt none =
    let by : (o : Option Fate) → share d u ≡ o → leaves (first_fate o (fate_at ds u)) ≡ false → (kept_by o i && survives ds i u) ≡ false =
    λ o. elim o as (λ p. share d u ≡ p → leaves (first_fate p (fate_at ds u)) ≡ false → (kept_by p i && survives ds i u) ≡ false) [
      | None ↦ λ e h. dropped_lost ds u i lt h
      | Some f ↦ λ e h. ap (λ k. k && survives ds i u) (drop_keeps_none f i h)
    ] in
    ap (λ b. b && survives ds i u) (keeps_by_share d u i lt) ∙ by (share d u) refl none

-- a unit with a fate is in the part of a departure that makes it so
pub some_departure : (ds : List Departure) (u : LogUnit) (f : Fate) → fate_at ds u ≡ Some f
    → (j : ℕ) × (d : Departure) × (slice_get ds j ≡ Some d) × (share d u ≡ Some f)
unfolding fate_at
some_departure [] u f fated = absurd (let bad : None ≡ Some f = fated in cc)
some_departure (d ∷ ds) u f fated =
    let by : (o : Option Fate) → share d u ≡ o → first_fate o (fate_at ds u) ≡ Some f
    → (j : ℕ) × (e : Departure) × (slice_get (d ∷ ds) j ≡ Some e) × (share e u ≡ Some f) =
    λ o. elim o as (λ p. share d u ≡ p → first_fate p (fate_at ds u) ≡ Some f → (j : ℕ) × (e : Departure) × (slice_get (d ∷ ds) j ≡ Some e) × (share e u ≡ Some f)) [
      | None ↦ λ e h. let rest = some_departure ds u f h in (suc rest.0, rest.1, rest.2, rest.3)
      | Some g ↦ λ e h. (0, d, refl, e ∙ h)
    ] in
    by (share d u) refl fated
