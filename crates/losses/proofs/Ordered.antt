-- The choices of images of a cut are in the order of choices.
use Rattle.std.proofs.Common.{ℕ, zero, suc, ◌≡◌, ◌+◌, ◌-◌, ◌*◌, ◌<◌, ◌≤◌, Bool, true, false, List, [], ◌∷◌, length, map, slice_get, None, Some, refl, sym, ◌∙◌, ap, subst, inl, inr, arith}
use Rattle.std.specs.Option.{option_map, option_map_or}
use Rattle.std.specs.List.{slice_index_or}
use Rattle.std.proofs.lemmas.List.{length-map}
use Rattle.std.proofs.lemmas.Option.{slice_get-get_or, slice_get_within}
use Rattle.epochs.specs.Parts.{volatile_parts}
use Rattle.choices.specs.declared.pick.Pick.{Pick}
use Rattle.choices.specs.Picks.{fates_of, picks_within}
use Rattle.choices.specs.Choices.{choice_of, choices_at, ranked_at}
use Rattle.choices.specs.Numbers.{number_of, numbers_of, numbers_at}
use Rattle.choices.specs.Laws.{AreRising as PicksRise, IsChoice, Before, Precedes as PicksPrecede, ListsChoices, ListIsSet}
use Rattle.choices.specs.Sums.{StartsValue}
use Rattle.losses.specs.FirstParts.{AreRising, DiffersBelow, Precedes, AreChoices}
use Rattle.losses.specs.Folded.{AreFolded}
use Rattle.losses.specs.Failures.{numbers_in, AreOfCut}

fates_few : (tears : Bool) → fates_of tears ≤ 15
fates_few tears = elim tears as (λ b. fates_of b ≤ 15) [ true ↦ omega arith | false ↦ omega arith ]

-- the numbers of departures of parts from a on
lowest : (m a e : ℕ) (ds : List Pick) → m ≤ 15 → PicksRise m a e ds → (j x : ℕ) → slice_get (numbers_of ds) j ≡ Some x → 15 * a ≤ x
lowest m a e [] few rise j x at = absurd (let bad : None ≡ Some x = at in cc)
lowest m a e (d ∷ ds) few rise zero x at =
    let same : Some (number_of d) ≡ Some x = at in
    let is : 15 * d.part + d.fate ≡ x = cc in
    omega (arith, is, rise.0)
lowest m a e (d ∷ ds) few rise (suc j) x at =
    let rest = lowest m (d.part + 1) e ds few rise.3 j x at in
    omega (arith, rest, rise.0)

-- they rise
numbers_rise : (m a e : ℕ) (ds : List Pick) → m ≤ 15 → PicksRise m a e ds → AreRising (numbers_of ds)
numbers_rise m a e [] few rise i j x y lt ati atj = absurd (let bad : None ≡ Some x = ati in cc)
numbers_rise m a e (d ∷ ds) few rise i zero x y lt ati atj = absurd (omega (arith, lt))
numbers_rise m a e (d ∷ ds) few rise zero (suc j) x y lt ati atj =
    let same : Some (number_of d) ≡ Some x = ati in
    let is : 15 * d.part + d.fate ≡ x = cc in
    let rest = lowest m (d.part + 1) e ds few rise.3 j y atj in
    omega (arith, is, rest, rise.2, few)
numbers_rise m a e (d ∷ ds) few rise (suc i) (suc j) x y lt ati atj = numbers_rise m (d.part + 1) e ds few rise.3 i j x y (omega (arith, lt)) ati atj

-- and are in the order of the departures
numbers_before : (m a e : ℕ) (cs ds : List Pick) → m ≤ 15 → PicksRise m a e cs → Before cs ds → DiffersBelow (numbers_of cs) (numbers_of ds)
numbers_before m a e [] ds few rise h = absurd h
numbers_before m a e (c ∷ cs) [] few rise h = absurd h
numbers_before m a e (c ∷ cs) (d ∷ ds) few rise (inl lt) = inl (omega (arith, lt, rise.2, few))
numbers_before m a e (c ∷ cs) (d ∷ ds) few rise (inr (same, inl lt)) = inl (omega (arith, same, lt))
numbers_before m a e (c ∷ cs) (d ∷ ds) few rise (inr (same, inr (alike, rest))) =
    inr (omega (arith, same, alike), numbers_before m (c.part + 1) e cs ds few rise.3 rest)

numbers_precede : (m bound v : ℕ) (cs ds : List Pick) → m ≤ 15 → IsChoice m bound v cs → PicksPrecede cs ds → Precedes (numbers_of cs) (numbers_of ds)
numbers_precede m bound v cs ds few is (inl lt) = inl (omega (arith, lt, length-map cs number_of, length-map ds number_of))
numbers_precede m bound v cs ds few is (inr (same, before)) =
    inr (omega (arith, same, length-map cs number_of, length-map ds number_of), numbers_before m 0 v cs ds few is.rising before)

-- how many choices a cut has
count_at : (s : StartsValue) (cut : ℕ) → length (ranked_at s.plan s.bound s.tears cut) ≡ length (picks_within (fates_of s.tears) s.bound (length (volatile_parts s.plan.by s.plan.log.entries cut)))
unfolding ranked_at choices_at
count_at s cut = length-map (picks_within (fates_of s.tears) s.bound (length (volatile_parts s.plan.by s.plan.log.entries cut))) (choice_of s.plan.by s.plan.log.entries 0 cut)

-- the picks of an image of a cut
pub record HasPicks (s : StartsValue) (cut first n : ℕ) : Type 0 where
  pub picks : List Pick
  pub there : slice_get (picks_within (fates_of s.tears) s.bound (length (volatile_parts s.plan.by s.plan.log.entries cut))) (n - first) ≡ Some picks
  pub numbers : numbers_in s cut first n ≡ numbers_of picks

has_picks : (s : StartsValue) (cut first n : ℕ) → first ≤ n → n < first + length (ranked_at s.plan s.bound s.tears cut) → HasPicks s cut first n
unfolding numbers_at
has_picks s cut first n low high =
    let all : List (List Pick) = picks_within (fates_of s.tears) s.bound (length (volatile_parts s.plan.by s.plan.log.entries cut)) in
    let within : n - first < length all = omega (arith, low, high, count_at s cut) in
    let there : slice_get all (n - first) ≡ Some (slice_index_or all (n - first) []) = slice_get-get_or all (n - first) [] within in
    record {
      picks = slice_index_or all (n - first) [];
      there = there;
      numbers = ap (λ o. option_map_or (λ (ns : List ℕ). ns) (option_map numbers_of o) []) there;
    }

-- an element of a mapped list
of_map : {X : Type 0} (f : ℕ → X) (ns : List ℕ) (i : ℕ) (x : X) → slice_get (map f ns) i ≡ Some x → (n : ℕ) × (slice_get ns i ≡ Some n) × (x ≡ f n)
of_map f [] i x at = absurd (let bad : None ≡ Some x = at in cc)
of_map f (n ∷ ns) zero x at = let same : Some (f n) ≡ Some x = at in (n, refl, cc)
of_map f (n ∷ ns) (suc i) x at = of_map f ns i x at

pub are_choices : ListIsSet → (s : StartsValue) (cut first : ℕ) (images : List ℕ) → AreOfCut s cut first images → AreChoices (map (numbers_in s cut first) images)
are_choices law s cut first images are =
    let m : ℕ = fates_of s.tears in
    let v : ℕ = length (volatile_parts s.plan.by s.plan.log.entries cut) in
    let lists : ListsChoices m s.bound v (picks_within m s.bound v) = law m s.bound v in
    record {
      rising = λ i ns at.
          let o = of_map (numbers_in s cut first) images i ns at in
          let p = has_picks s cut first o.0 (are.low i o.0 o.1) (are.high i o.0 o.1) in
          subst AreRising (sym (o.2 ∙ p.numbers)) (numbers_rise m 0 v p.picks (fates_few s.tears) (lists.sound _ _ p.there).rising);
      ordered = λ i j ns ms lt ati atj.
          let o = of_map (numbers_in s cut first) images i ns ati in
          let q = of_map (numbers_in s cut first) images j ms atj in
          let p = has_picks s cut first o.0 (are.low i o.0 o.1) (are.high i o.0 o.1) in
          let r = has_picks s cut first q.0 (are.low j q.0 q.1) (are.high j q.0 q.1) in
          let less = are.ordered i j o.0 q.0 lt o.1 q.1 in
          let rests : o.0 - first < q.0 - first = omega (arith, less, are.low i o.0 o.1, are.low j q.0 q.1) in
          subst (λ (xs : List ℕ). Precedes xs ms) (sym (o.2 ∙ p.numbers)) (subst (λ (xs : List ℕ). Precedes (numbers_of p.picks) xs) (sym (q.2 ∙ r.numbers))
          (numbers_precede m s.bound v p.picks r.picks (fates_few s.tears) (lists.sound _ _ p.there) (lists.ordered _ _ p.picks r.picks rests p.there r.there)));
    }

-- the example of a choice is one of the choices
pub place_within : (cs : List (List ℕ)) (places : List ℕ) → AreFolded cs places → (i place : ℕ) → slice_get places i ≡ Some place → place < length places
place_within cs places are i place at =
    let alike = (are.each i place at).example.is_alike in
    let within = slice_get_within cs place alike.example alike.example_there in
    omega (arith, within, are.each_once)
