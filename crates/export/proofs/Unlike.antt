-- Two images differ in those sectors alone that departures of theirs have, or entries between their cuts.
use Rattle.std.proofs.Common.{ℕ, zero, suc, ◌≡◌, ◌+◌, ◌<◌, ◌≤◌, ◌⊎◌, nat_eq, ◌&&◌, Bool, true, false, not, List, [], length, map, filter, slice_get, Some, None, refl, sym, subst, ◌∙◌, ap, inl, inr, arith}
use Rattle.std.specs.List.{range_with_len}
use Rattle.std.specs.Cmp.Lexicographic.{pointwise, pointwise_decides}
use Rattle.std.proofs.lemmas.Bool.Decides.{Decides-eqb}
use Rattle.std.proofs.lemmas.Option.{get_or_from_slice_get, slice_get-get_or}
use Rattle.std.proofs.lemmas.List.FromFn.{length-map-range_with_len, get_or-map-range_with_len}
use Rattle.logfmt.specs.Initial.{initial_sector}
use Rattle.logfmt.specs.Bounds.{LogValue, IsLog}
use Rattle.epochs.specs.Units.{units_before}
use Rattle.choices.specs.declared.choice.Departure.{Departure}
use Rattle.images.specs.Images.{sector_after}
use Rattle.images.specs.Views.{ViewValue, sectors_of}
use Rattle.images.specs.Keys.{differs, content_at, base_of}
use Rattle.images.proofs.Bases.{epoch_has_base}
use Rattle.images.specs.Table.{AreParts}
use Rattle.images.proofs.Sectors.{view_there}
use Rattle.export.specs.Kept.{listed, Lists, OfOneLog, IsDeparting, IsWritten}
use Rattle.export.proofs.Numbers.{those_alike}
use Rattle.export.proofs.Elsewhere.{agree}

-- whether two images differ in a sector, as it was read and compared
pub differs_read : (one other : List (List ℕ)) (n : ℕ) (here there : List ℕ) (same : Bool) → slice_get one n ≡ Some here → slice_get other n ≡ Some there
    → same ≡ pointwise nat_eq here there → not same ≡ differs one other n
unfolding differs
differs_read one other n here there same first second is =
    ap not (is
    ∙ ap (λ (s : List ℕ). pointwise nat_eq s there) (sym (get_or_from_slice_get one n here [] first))
    ∙ ap (pointwise nat_eq (content_at one n)) (sym (get_or_from_slice_get other n there [] second)))

-- a sector of an image
content_is : (view : ViewValue) (n : ℕ) → n < view.log.sectors
    → content_at (sectors_of view) n ≡ sector_after view.log (units_before view.log.entries view.cut) view.departures n
content_is view n lt = get_or_from_slice_get (sectors_of view) n _ [] (view_there view n lt)

same_none : (one other : List (List ℕ)) (n : ℕ) → content_at one n ≡ content_at other n → differs one other n ≡ false
unfolding differs
same_none one other n same = ap not ((pointwise_decides Decides-eqb (content_at one n) (content_at other n)).1 same)

-- what a view is made of
pub record IsWhole (v : ViewValue) : Type 0 where
  pub bounds : IsLog v.log
  pub within : v.cut ≤ length v.log.entries
  pub parts : AreParts v.log v.departures

-- neither departs in it, and nothing between their cuts writes it
record IsFree (one other : ViewValue) (low high n : ℕ) : Type 0 where
  pub own : IsDeparting one.departures n → ⊥
  pub theirs : IsDeparting other.departures n → ⊥
  pub between : IsWritten one.log.entries low high n → ⊥

agree_rising : (log : LogValue) (k m : ℕ) (ds es : List Departure) (n : ℕ) → IsLog log → AreParts log ds → AreParts log es → k ≤ m → m ≤ length log.entries
    → (IsDeparting ds n → ⊥) → (IsDeparting es n → ⊥) → (IsWritten log.entries k m n → ⊥)
    → sector_after log (units_before log.entries k) ds n ≡ sector_after log (units_before log.entries m) es n
agree_rising log k m ds es n bounds first second le within own theirs between =
    agree log k m ds es n bounds le within first second
    (λ j d there c. own (j, d, there, (c.low, c.high)))
    (λ j d there c. theirs (j, d, there, (c.low, c.high)))
    (λ e x low high there w. between (e, low, high, (x, there, (w.low, w.high))))

-- the lower and the higher cut
pub record AreOrdered (one other : ViewValue) (low high : ℕ) : Type 0 where
  pub rising : ((low ≡ one.cut) × (high ≡ other.cut)) ⊎ ((low ≡ other.cut) × (high ≡ one.cut))
  pub le : low ≤ high

agree_either : (log : LogValue) (k m : ℕ) (ds es : List Departure) (low high n : ℕ) → IsLog log → AreParts log ds → AreParts log es
    → k ≤ length log.entries → m ≤ length log.entries
    → ((low ≡ k) × (high ≡ m)) ⊎ ((low ≡ m) × (high ≡ k)) → low ≤ high
    → (IsDeparting ds n → ⊥) → (IsDeparting es n → ⊥) → (IsWritten log.entries low high n → ⊥)
    → sector_after log (units_before log.entries k) ds n ≡ sector_after log (units_before log.entries m) es n
agree_either log k m ds es low high n bounds first second one two ways le own theirs between = elim ways [
  | inl up ↦
      let P : ℕ → ℕ → Type 0 = λ a b. IsWritten log.entries a b n → ⊥ in
      agree_rising log k m ds es n bounds first second (omega (arith, le, up.0, up.1)) two own theirs
      (subst (λ a. P a m) up.0 (subst (λ b. P low b) up.1 between))
  | inr down ↦
      let P : ℕ → ℕ → Type 0 = λ a b. IsWritten log.entries a b n → ⊥ in
      sym (agree_rising log m k es ds n bounds second first (omega (arith, le, down.0, down.1)) one theirs own
      (subst (λ a. P a k) down.0 (subst (λ b. P low b) down.1 between)))
]

-- so an image agrees with another in each sector that isn't among these
agree_views : (one other : ViewValue) (low high n : ℕ) → IsWhole one → IsWhole other → OfOneLog one other → AreOrdered one other low high → n < one.log.sectors
    → (IsDeparting one.departures n → ⊥) → (IsDeparting other.departures n → ⊥) → (IsWritten one.log.entries low high n → ⊥)
    → differs (sectors_of one) (sectors_of other) n ≡ false
agree_views one other low high n first second log ordered lt own theirs between =
    let P : LogValue → Type 0 = λ l. AreParts l other.departures in
    let within = second.within in
    let long : length one.log.entries ≡ length other.log.entries = ap (λ (l : LogValue). length l.entries) log in
    let size : one.log.sectors ≡ other.log.sectors = ap (λ (l : LogValue). l.sectors) log in
    same_none (sectors_of one) (sectors_of other) n
    (content_is one n lt
    ∙ agree_either one.log one.cut other.cut one.departures other.departures low high n first.bounds first.parts (subst P (sym log) second.parts) first.within
    (omega (arith, within, long)) ordered.rising ordered.le own theirs between
    ∙ ap (λ (l : LogValue). sector_after l (units_before l.entries other.cut) other.departures n) log
    ∙ sym (content_is other n (omega (arith, lt, size))))

-- those that are listed are all in which they differ
pub all_listed : (one other : ViewValue) (xs ys zs : List ℕ) (p : ℕ → Bool) (low high : ℕ) → IsWhole one → IsWhole other → OfOneLog one other
    → AreOrdered one other low high
    → (a : Lists one other xs p (IsDeparting one.departures)) → (b : Lists one other ys a.chosen (IsDeparting other.departures))
    → Lists one other zs b.chosen (IsWritten one.log.entries low high)
    → zs ≡ filter (differs (sectors_of one) (sectors_of other)) (range_with_len 0 one.log.sectors)
all_listed one other xs ys zs p low high first second log ordered a b c =
    c.is
    ∙ those_alike (λ n. c.chosen n && differs (sectors_of one) (sectors_of other) n) (differs (sectors_of one) (sectors_of other)) 0 one.log.sectors
    (λ n from lt.
    let by : (v : Bool) → c.chosen n ≡ v → (c.chosen n && differs (sectors_of one) (sectors_of other) n) ≡ differs (sectors_of one) (sectors_of other) n =
    λ v. elim v as (λ w. c.chosen n ≡ w → (c.chosen n && differs (sectors_of one) (sectors_of other) n) ≡ differs (sectors_of one) (sectors_of other) n) [
      | true ↦ λ e. ap (λ w. w && differs (sectors_of one) (sectors_of other) n) e
      | false ↦ λ e.
          let off : c.chosen n ≡ true → ⊥ = λ h. absurd (let bad : true ≡ false = sym h ∙ e in cc) in
          ap (λ w. w && differs (sectors_of one) (sectors_of other) n) e
          ∙ sym (agree_views one other low high n first second log ordered (omega (arith, lt)) (λ h. off (c.stays n (b.stays n (a.more n h))))
          (λ h. off (c.stays n (b.more n h))) (λ h. off (c.more n h)))
    ] in
    by (c.chosen n) refl)

-- nothing is listed at first
pub none_chosen : (one other : ViewValue) → [] ≡ listed one other (λ n. false)
none_chosen one other = none 0 one.log.sectors
  where
    none : (a k : ℕ) → [] ≡ filter (λ n. false && differs (sectors_of one) (sectors_of other) n) (range_with_len a k)
    none a zero = refl
    none a (suc k) = none (a + 1) k

-- the device before entry 0
pub starts : (log : LogValue) → sectors_of (record { log = log; cut = 0; departures = [] }) ≡ map (initial_sector log.initial) (range_with_len 0 log.sectors)
unfolding sectors_of base_of
starts log = epoch_has_base.first log 0 refl

-- a sector of an image, as its view answers it, and as the initial content has it
pub none_read : (view image : ViewValue) (n : ℕ) → view ≡ image → n < image.log.sectors → None ≡ slice_get (sectors_of view) n → ⊥
none_read view image n same lt none =
    let size : view.log.sectors ≡ image.log.sectors = ap (λ (v : ViewValue). v.log.sectors) same in
    let bad : None ≡ Some (sector_after view.log (units_before view.log.entries view.cut) view.departures n) = none ∙ view_there view n (omega (arith, size, lt)) in
    cc

pub initial_read : (image : ViewValue) (n : ℕ) (s : List ℕ) → image.cut ≡ 0 → image.departures ≡ [] → n < image.log.sectors → s ≡ initial_sector image.log.initial n
    → slice_get (sectors_of image) n ≡ Some s
initial_read image n s cut none lt is =
    let here : 0 + n ≡ n = omega arith in
    let long = length-map-range_with_len (initial_sector image.log.initial) 0 image.log.sectors in
    ap (λ (k : ℕ). slice_get (sectors_of (record { log = image.log; cut = k; departures = image.departures })) n) cut
    ∙ ap (λ (ds : List Departure). slice_get (sectors_of (record { log = image.log; cut = 0; departures = ds })) n) none
    ∙ ap (λ (d : List (List ℕ)). slice_get d n) (starts image.log)
    ∙ slice_get-get_or (map (initial_sector image.log.initial) (range_with_len 0 image.log.sectors)) n [] (omega (arith, long, lt))
    ∙ ap (λ (t : List ℕ). Some t) (get_or-map-range_with_len (initial_sector image.log.initial) 0 image.log.sectors n n [] lt here ∙ sym is)

-- the departures of an image, as they were read
pub of_departures : (one other : ViewValue) (xs : List ℕ) (ds : List Departure) (p : ℕ → Bool) (own : List Departure) → ds ≡ own
    → Lists one other xs p (IsDeparting ds) → Lists one other xs p (IsDeparting own)
of_departures one other xs ds p own same so = subst (λ (es : List Departure). Lists one other xs p (IsDeparting es)) same so
