-- The order of departures and of choices: what their numbers say of it, and that nothing is before itself.
use Rattle.std.proofs.Common.{ℕ, zero, suc, ◌≡◌, ◌+◌, ◌-◌, ◌<◌, ◌≤◌, Bool, true, false, if◌then◌else◌, List, [], ◌∷◌, length, map, take, slice_get, Some, refl, sym, ◌∙◌, ap, subst, inl, inr, arith}
use Rattle.std.specs.List.{slice_index_or}
use Rattle.std.proofs.lemmas.Bool.{cases_lt, lt-ltb, le-ltb}
use Rattle.std.proofs.lemmas.Option.{slice_get-get_or, same_Some}
use Rattle.logfmt.specs.declared.entry.Entry.{Entry}
use Rattle.epochs.specs.declared.part.By.{By}
use Rattle.epochs.specs.declared.part.Part.{Part}
use Rattle.epochs.specs.Laws.{ListsVolatile, Precedes as PartPrecedes}
use Rattle.choices.specs.declared.pick.Pick.{Pick}
use Rattle.choices.specs.declared.fate.Fate.{Fate}
use Rattle.choices.specs.declared.fate.Fate.TheVariants as fate
use Rattle.choices.specs.declared.choice.Departure.{Departure}
use Rattle.choices.specs.Picks.{fates_of, tears_of_part}
use Rattle.choices.specs.Laws.{Before}
use Rattle.choices.specs.Choices.{ChoiceValue, departure_of, fate_of, nowhere}
use Rattle.choices.specs.CrashModel.{IsFate, FatePrecedes, DeparturePrecedes, DiffersFirst, ChoicePrecedes}
use Rattle.choices.proofs.Plans.{fates_low}

-- the numbers of the heads, and those of the tails
pub is_head : (t : ℕ) → t < tears_of_part → fate_of (suc t) ≡ fate.Head (suc t)
is_head t lt = ap (λ b. if b then fate.Head (suc t) else fate.Tail (suc t - tears_of_part)) (lt-ltb t tears_of_part lt)

pub is_tail : (t : ℕ) → tears_of_part ≤ t → fate_of (suc t) ≡ fate.Tail (suc t - tears_of_part)
is_tail t le = ap (λ b. if b then fate.Head (suc t) else fate.Tail (suc t - tears_of_part)) (le-ltb t tears_of_part le)

-- a number below that of the fates is one of the fates
pub fate_said : (tears : Bool) (t : ℕ) → t < fates_of tears → IsFate tears (fate_of t)
fate_said tears zero h = tt
fate_said true (suc t) h =
    let P : Fate → Type 0 = λ f. IsFate true f in
    elim (cases_lt t tears_of_part) [
      | inl lt ↦ subst P (sym (is_head t lt)) (refl, omega arith, omega (arith, lt))
      | inr le ↦ subst P (sym (is_tail t le)) (refl, omega (arith, le), omega (arith, h))
    ]
fate_said false (suc t) h = absurd (omega (arith, h))

-- and each of the fates has one
pub fate_number : (tears : Bool) (f : Fate) → IsFate tears f → (t : ℕ) × (t < fates_of tears) × (fate_of t ≡ f)
fate_number tears fate.Drop h = (0, fates_low tears, refl)
fate_number tears (fate.Head zero) h = absurd (omega (arith, h.1))
fate_number tears (fate.Tail zero) h = absurd (omega (arith, h.1))
fate_number true (fate.Head (suc t)) h = (suc t, omega (arith, h.2), is_head t (omega (arith, h.2)))
fate_number true (fate.Tail (suc t)) h =
    let eighths : suc (t + tears_of_part) - tears_of_part ≡ suc t = omega arith in
    (suc (t + tears_of_part), omega (arith, h.2), is_tail (t + tears_of_part) (omega arith) ∙ ap (λ n. fate.Tail n) eighths)
fate_number false (fate.Head (suc t)) h = absurd (let bad : false ≡ true = h.0 in cc)
fate_number false (fate.Tail (suc t)) h = absurd (let bad : false ≡ true = h.0 in cc)

-- a greater number is a later fate
drop_first : (t : ℕ) → FatePrecedes fate.Drop (fate_of (suc t))
drop_first t =
    let P : Fate → Type 0 = λ f. FatePrecedes fate.Drop f in
    elim (cases_lt t tears_of_part) [ inl lt ↦ subst P (sym (is_head t lt)) tt | inr le ↦ subst P (sym (is_tail t le)) tt ]

head_rises : (s t : ℕ) → s < t → FatePrecedes (fate.Head (suc s)) (fate_of (suc t))
head_rises s t h =
    let P : Fate → Type 0 = λ f. FatePrecedes (fate.Head (suc s)) f in
    elim (cases_lt t tears_of_part) [ inl lt ↦ subst P (sym (is_head t lt)) (omega (arith, h)) | inr le ↦ subst P (sym (is_tail t le)) tt ]

tail_rises : (s t : ℕ) → tears_of_part ≤ s → s < t → FatePrecedes (fate.Tail (suc s - tears_of_part)) (fate_of (suc t))
tail_rises s t le h =
    let P : Fate → Type 0 = λ f. FatePrecedes (fate.Tail (suc s - tears_of_part)) f in
    subst P (sym (is_tail t (omega (arith, le, h)))) (omega (arith, le, h))

fate_rises : (s t : ℕ) → s < t → FatePrecedes (fate_of s) (fate_of t)
fate_rises zero zero h = absurd (omega (arith, h))
fate_rises zero (suc t) h = drop_first t
fate_rises (suc s) zero h = absurd (omega (arith, h))
fate_rises (suc s) (suc t) h =
    let P : Fate → Type 0 = λ f. FatePrecedes f (fate_of (suc t)) in
    elim (cases_lt s tears_of_part) [
      | inl lt ↦ subst P (sym (is_head s lt)) (head_rises s t (omega (arith, h)))
      | inr le ↦ subst P (sym (is_tail s le)) (tail_rises s t le (omega (arith, h)))
    ]

fate_once : (f : Fate) → FatePrecedes f f → ⊥
fate_once fate.Drop h = h
fate_once (fate.Head t) h = omega (arith, h)
fate_once (fate.Tail t) h = omega (arith, h)

part_once : (u : Part) → PartPrecedes u u → ⊥
part_once u h = elim h [
  | inl entry ↦ omega (arith, entry)
  | inr sector ↦ omega (arith, sector.1)
]

parts_differ : (u v : Part) → PartPrecedes u v → PartPrecedes v u → ⊥
parts_differ u v h k = elim h [
  | inl entry ↦ elim k [
    | inl other ↦ omega (arith, entry, other)
    | inr other ↦ omega (arith, entry, other.0)
  ]
  | inr sector ↦ elim k [
    | inl other ↦ omega (arith, sector.0, other)
    | inr other ↦ omega (arith, sector.1, other.1)
  ]
]

departure_once : (d : Departure) → DeparturePrecedes d d → ⊥
departure_once d h = elim h [
  | inl part ↦ part_once d.part part
  | inr same ↦ fate_once d.fate same.1
]

differs_never : (cs ds : List Departure) → cs ≡ ds → DiffersFirst cs ds → ⊥
differs_never cs ds same h =
    let P : Departure → Type 0 = λ x. DeparturePrecedes x h.right in
    let one : h.left ≡ h.right = same_Some h.left h.right (sym h.left_there ∙ ap (λ xs. slice_get xs h.place) same ∙ h.right_there) in
    departure_once h.right (subst P one h.precedes)

-- no choice is before one that is the same
pub never_before : (a b : ChoiceValue) → ChoicePrecedes a b → a.cut ≡ b.cut → a.departures ≡ b.departures → ⊥
never_before a b h cut departures = elim h [
  | inl less ↦ omega (arith, less, cut)
  | inr more ↦ elim more.1 [
    | inl fewer ↦ omega (arith, fewer, ap length departures)
    | inr long ↦ differs_never a.departures b.departures departures long.1
  ]
]

-- of two volatile parts the one that is before has the smaller number
pub part_index : (way : By) (es : List Entry) (k : ℕ) (us : List Part) → ListsVolatile way es k us → (i j : ℕ) (u v : Part)
    → slice_get us i ≡ Some u → slice_get us j ≡ Some v → PartPrecedes u v → i < j
part_index way es k us so i j u v hu hv h = elim (cases_lt i j) [
  | inl less ↦ less
  | inr more ↦ elim (cases_lt j i) [
    | inl above ↦ absurd (parts_differ u v h (so.rising j i v u above hv hu))
    | inr below ↦
        let same : i ≡ j = omega (arith, more, below) in
        let one : u ≡ v = same_Some u v (sym hu ∙ ap (slice_get us) same ∙ hv) in
        let P : Part → Type 0 = λ w. PartPrecedes w v in
        absurd (part_once v (subst P one h))
  ]
]

-- what a departure has by its numbers
pub part_there : (us : List Part) (p : Pick) → p.part < length us → slice_get us p.part ≡ Some (departure_of us p).part
unfolding departure_of
part_there us p lt = slice_get-get_or us p.part nowhere lt

-- and its fate
pub fate_there : (us : List Part) (p : Pick) → (departure_of us p).fate ≡ fate_of p.fate
unfolding departure_of
fate_there us p = refl

same_part : (us : List Part) (c d : Pick) → c.part ≡ d.part → (departure_of us c).part ≡ (departure_of us d).part
unfolding departure_of
same_part us c d same = ap (λ (u : ℕ). slice_index_or us u nowhere) same

later_fate : (us : List Part) (c d : Pick) → c.fate < d.fate → FatePrecedes (departure_of us c).fate (departure_of us d).fate
unfolding departure_of
later_fate us c d lt = fate_rises c.fate d.fate lt

-- the order of the numbers is the order of the departures
pub differs : (way : By) (es : List Entry) (k : ℕ) (us : List Part) → ListsVolatile way es k us → (cs ds : List Pick)
    → ((i : ℕ) (p : Pick) → slice_get cs i ≡ Some p → p.part < length us)
    → ((i : ℕ) (p : Pick) → slice_get ds i ≡ Some p → p.part < length us)
    → Before cs ds → DiffersFirst (map (departure_of us) cs) (map (departure_of us) ds)
differs way es k us so [] ds in_cs in_ds h = absurd h
differs way es k us so (c ∷ cs) [] in_cs in_ds h = absurd h
differs way es k us so (c ∷ cs) (d ∷ ds) in_cs in_ds h = elim h [
  | inl less ↦ record {
    place = 0;
    before = refl;
    left = departure_of us c;
    left_there = refl;
    right = departure_of us d;
    right_there = refl;
    precedes =
        inl (so.rising c.part d.part (departure_of us c).part (departure_of us d).part less (part_there us c (in_cs 0 c refl)) (part_there us d (in_ds 0 d refl)));
  }
  | inr same ↦ elim same.1 [
    | inl lower ↦ record {
      place = 0;
      before = refl;
      left = departure_of us c;
      left_there = refl;
      right = departure_of us d;
      right_there = refl;
      precedes = inr (same_part us c d same.0, later_fate us c d lower);
    }
    | inr rest ↦
        let one : c ≡ d = λ i. record { part = same.0 i; fate = rest.0 i } in
        let more = differs way es k us so cs ds (λ i p at. in_cs (suc i) p at) (λ i p at. in_ds (suc i) p at) rest.1 in
        record {
          place = suc more.place;
          before =
              ap (λ (e : Departure). e ∷ take more.place (map (departure_of us) cs)) (ap (departure_of us) one)
              ∙ ap (λ (rests : List Departure). departure_of us d ∷ rests) more.before;
          left = more.left;
          left_there = more.left_there;
          right = more.right;
          right_there = more.right_there;
          precedes = more.precedes;
        }
  ]
]
