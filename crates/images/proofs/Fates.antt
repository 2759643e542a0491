-- What a unit changes, by its fate.
use Rattle.std.proofs.Common.{ℕ, ◌≡◌, ◌-◌, ◌*◌, ◌<◌, ◌≤◌, Bool, true, false, cond, not, ◌&&◌, ◌||◌, nat_eq, Option, Some, None, List, [], ◌∷◌, ◌++◌, length, map, take, drop, refl, sym, subst, ◌∙◌, ap, arith}
use Rattle.std.specs.List.{list_all, range_with_len}
use Rattle.std.proofs.lemmas.Bool.{lt-ltb}
use Rattle.std.proofs.lemmas.List.{append-nil, take_all, drop_all}
use Rattle.std.proofs.lemmas.Option.{same_Some}
use Rattle.logfmt.specs.Bounds.{LogValue, IsLog}
use Rattle.epochs.specs.declared.unit.Unit.{Unit as LogUnit}
use Rattle.epochs.specs.Units.{unit_content}
use Rattle.epochs.specs.Plan.{IsUnit}
use Rattle.epochs.proofs.Contents.{unit_is_sector}
use Rattle.choices.specs.declared.fate.Fate.{Fate}
use Rattle.choices.specs.declared.fate.Fate.TheVariants as fate
use Rattle.choices.specs.declared.choice.Departure.{Departure}
use Rattle.images.specs.Images.{keeps, is_in, byte_in, departures_of, survives, writes, sector_after}
use Rattle.images.specs.Laws.{FatesShow}
use Rattle.images.specs.Whole.{length-sector_after}
use Rattle.images.specs.Table.{DepartOnce, first_fate, share, fate_at}
use Rattle.images.proofs.Kept.{and_false}
use Rattle.images.proofs.Shares.{kept_by, keeps_by_share, lt_alike, le_alike, taken}
use Rattle.images.proofs.Writers.{byte_after_lost}
use Rattle.images.proofs.Laying.{sector_head, sector_tail, sector_elsewhere}

none_left : (ds : List Departure) → length ds < 1 → ds ≡ []
none_left [] few = refl
none_left (d ∷ ds) few = absurd (omega (arith, few))

-- a unit survives by its own departures alone
own_alone : (keeps_it : Departure → Bool) (d : Departure) (ds : List Departure) (b : Bool)
    → ((not b || keeps_it d) && list_all keeps_it ds) ≡ list_all keeps_it (cond b (d ∷ ds) ds)
own_alone keeps_it d ds true = refl
own_alone keeps_it d ds false = refl

-- whether a departure keeps byte i of a unit of its part
abbrev keeps_of : LogUnit → ℕ → Departure → Bool
keeps_of u i d = keeps d.fate d.part.count (byte_in d.part u i)

survives_by_own : (ds : List Departure) (u : LogUnit) (i : ℕ) → survives ds i u ≡ list_all (keeps_of u i) (departures_of ds u)
unfolding survives departures_of
survives_by_own [] u i = refl
survives_by_own (d ∷ ds) u i =
    ap (λ b. (not (is_in d.part u) || keeps_of u i d) && b) (survives_by_own ds u i)
    ∙ own_alone (keeps_of u i) d (departures_of ds u) (is_in d.part u)

no_departure : (ds : List Departure) (u : LogUnit) (i : ℕ) → departures_of ds u ≡ [] → survives ds i u ≡ true
no_departure ds u i none = survives_by_own ds u i ∙ ap (list_all (keeps_of u i)) none

and_true : (b : Bool) → (b && true) ≡ b
and_true true = refl
and_true false = refl

one_departure : (ds : List Departure) (u : LogUnit) (i : ℕ) (d : Departure) (f : Fate) → departures_of ds u ≡ d ∷ [] → d.fate ≡ f
    → survives ds i u ≡ keeps f d.part.count (byte_in d.part u i)
one_departure ds u i d f one is =
    survives_by_own ds u i ∙ ap (list_all (keeps_of u i)) one ∙ and_true (keeps_of u i d)
    ∙ ap (λ g. keeps g d.part.count (byte_in d.part u i)) is

-- of the departures after the one whose part a unit is in none is of the unit
rest_survives : (d : Departure) (ds : List Departure) (u : LogUnit) (i : ℕ) → length (departures_of (d ∷ ds) u) ≤ 1 → is_in d.part u ≡ true
    → survives ds i u ≡ true
unfolding departures_of
rest_survives d ds u i few own =
    let here : length (d ∷ departures_of ds u) ≤ 1 =
    let P : Bool → Type 0 = λ b. length (cond b (d ∷ departures_of ds u) (departures_of ds u)) ≤ 1 in subst P own few in
    no_departure ds u i (none_left (departures_of ds u) (omega (arith, here)))

fewer_left : (d : Departure) (ds : List Departure) (u : LogUnit) → length (departures_of (d ∷ ds) u) ≤ 1 → length (departures_of ds u) ≤ 1
unfolding departures_of
fewer_left d ds u few =
    let by : (b : Bool) → length (cond b (d ∷ departures_of ds u) (departures_of ds u)) ≤ 1 → length (departures_of ds u) ≤ 1 =
    λ b. elim b as (λ c. length (cond c (d ∷ departures_of ds u) (departures_of ds u)) ≤ 1 → length (departures_of ds u) ≤ 1) [
      | true ↦ λ h. omega (arith, h)
      | false ↦ λ h. h
    ] in
    by (is_in d.part u) few

-- a unit that departs once survives by its fate
fate_survives : (ds : List Departure) (u : LogUnit) (i : ℕ) (f : Fate) → i < 512 → length (departures_of ds u) ≤ 1 → fate_at ds u ≡ Some f
    → survives ds i u ≡ keeps f 1 i
unfolding survives fate_at
fate_survives [] u i f lt few at = absurd (let bad : None ≡ Some f = at in cc)
fate_survives (d ∷ ds) u i f lt few at =
    let by : (o : Option Fate) → share d u ≡ o → first_fate o (fate_at ds u) ≡ Some f → (kept_by o i && survives ds i u) ≡ keeps f 1 i =
    λ o. elim o as (λ p. share d u ≡ p → first_fate p (fate_at ds u) ≡ Some f → (kept_by p i && survives ds i u) ≡ keeps f 1 i) [
      | None ↦ λ e h. fate_survives ds u i f lt (fewer_left d ds u few) h
      | Some g ↦ λ e h.
          let same : g ≡ f = same_Some g f h in
          let rest : survives ds i u ≡ true = rest_survives d ds u i few (taken d u g e).0 in
          ap (λ b. keeps g 1 i && b) rest ∙ and_true (keeps g 1 i) ∙ ap (λ x. keeps x 1 i) same
    ] in
    ap (λ b. b && survives ds i u) (keeps_by_share d u i lt) ∙ by (share d u) refl at

pub fated_survives : (ds : List Departure) (u : LogUnit) (i : ℕ) (f : Fate) → i < 512 → DepartOnce ds → fate_at ds u ≡ Some f → survives ds i u ≡ keeps f 1 i
fated_survives ds u i f lt once at = fate_survives ds u i f lt (once u) at

pub whole_shows : (log : LogValue) (us : List LogUnit) (u : LogUnit) (ds : List Departure) → IsLog log → IsUnit log u → departures_of ds u ≡ []
    → sector_after log (us ++ u ∷ []) ds u.sector ≡ unit_content log.entries u
whole_shows log us u ds is at none =
    let es = log.entries in
    let long : length (unit_content es u) ≡ 512 = unit_is_sector log u is at in
    let old : List ℕ = sector_after log us ds u.sector in
    let old_long : length old ≡ 512 = length-sector_after log us ds u.sector in
    let spliced = sector_head log us u ds (unit_content es u) old 512 (omega arith) refl long refl old_long (λ i lt. no_departure ds u i none ∙ sym (lt-ltb i 512 lt)) in
    let front : take 512 (unit_content es u) ≡ unit_content es u = take_all 512 (unit_content es u) (omega (arith, long)) in
    let beyond : drop 512 old ≡ [] = drop_all 512 old (omega (arith, old_long)) in
    sym spliced ∙ ap (λ xs. take 512 (unit_content es u) ++ xs) beyond ∙ append-nil (take 512 (unit_content es u)) ∙ front

dropped_stays : (log : LogValue) (us : List LogUnit) (u : LogUnit) (ds : List Departure) (s : ℕ) (d : Departure)
    → departures_of ds u ≡ d ∷ [] → d.fate ≡ fate.Drop
    → sector_after log (us ++ u ∷ []) ds s ≡ sector_after log us ds s
unfolding sector_after writes
dropped_stays log us u ds s d one is =
    ap (λ (f : ℕ → ℕ). map f (range_with_len 0 512))
    (λ j i. byte_after_lost log us u ds s i (ap (λ b. nat_eq u.sector s && b) (one_departure ds u i d fate.Drop one is) ∙ and_false (nat_eq u.sector s)) j)

head_shows : (log : LogValue) (us : List LogUnit) (u : LogUnit) (ds : List Departure) (d : Departure) (t m : ℕ) → IsLog log → IsUnit log u
    → departures_of ds u ≡ d ∷ [] → d.fate ≡ fate.Head t → m ≡ 64 * (t * d.part.count) - 512 * (u.place - d.part.place) → m ≤ 512
    → sector_after log (us ++ u ∷ []) ds u.sector ≡ take m (unit_content log.entries u) ++ drop m (sector_after log us ds u.sector)
head_shows log us u ds d t m is at one head size le =
    let es = log.entries in
    let old : List ℕ = sector_after log us ds u.sector in
    sym (sector_head log us u ds (unit_content es u) old m le refl (unit_is_sector log u is at) refl (length-sector_after log us ds u.sector)
    (λ i below. one_departure ds u i d (fate.Head t) one head
    ∙ lt_alike (byte_in d.part u i) (64 * (t * d.part.count)) i m (λ h. omega (arith, h, size)) (λ h. omega (arith, h, size))))

tail_shows : (log : LogValue) (us : List LogUnit) (u : LogUnit) (ds : List Departure) (d : Departure) (t m : ℕ) → IsLog log → IsUnit log u
    → departures_of ds u ≡ d ∷ [] → d.fate ≡ fate.Tail t → m ≡ 512 * d.part.count - 64 * (t * d.part.count) - 512 * (u.place - d.part.place) → m ≤ 512
    → sector_after log (us ++ u ∷ []) ds u.sector ≡ take m (sector_after log us ds u.sector) ++ drop m (unit_content log.entries u)
tail_shows log us u ds d t m is at one tail size le =
    let es = log.entries in
    let old : List ℕ = sector_after log us ds u.sector in
    sym (sector_tail log us u ds (unit_content es u) old m le refl (unit_is_sector log u is at) refl (length-sector_after log us ds u.sector)
    (λ i below. one_departure ds u i d (fate.Tail t) one tail
    ∙ le_alike (512 * d.part.count - 64 * (t * d.part.count)) (byte_in d.part u i) m i (λ h. omega (arith, h, size)) (λ h. omega (arith, h, size))))

pub fates_show : FatesShow
fates_show = record {
  whole = whole_shows;
  dropped = dropped_stays;
  head = head_shows;
  tail = tail_shows;
  elsewhere = λ log us u ds s other. sym (sector_elsewhere log us u ds s other);
}
