-- How many images in a row differ in their last departure alone, and of how many of these an entry speaks.
use Rattle.std.proofs.Common.{ℕ, zero, suc, ◌≡◌, ◌+◌, ◌-◌, ◌*◌, ◌==◌, ◌<◌, ◌≤◌, Bool, true, false, List, length, Option, Some, slice_get, sym, ◌∙◌, ap, subst, arith}
use Rattle.std.specs.List.{slice_index_or}
use Rattle.std.proofs.lemmas.Option.{slice_get-get_or, slice_get_within}
use Rattle.base.specs.Sizes.{most_units}
use Rattle.epochs.specs.Cuts.{cuts_of}
use Rattle.epochs.specs.Parts.{volatile_parts}
use Rattle.epochs.specs.Plan.{PlanValue}
use Rattle.choices.specs.declared.pick.Pick.{Pick}
use Rattle.choices.specs.Picks.{fates_of}
use Rattle.choices.specs.Picked.{PickedValue, IsRanked}
use Rattle.choices.proofs.Passing.{ranked_stands}
use Rattle.workers.specs.declared.entries.KnownEntry.{KnownEntry}
use Rattle.workers.specs.Failing.{Subject}
use Rattle.workers.specs.Reuse.{EntryValue, IsFound, IsNextTold, tells}
use Rattle.workers.specs.Local.{Reaches, HoldsFrom, parts_at}
use Rattle.workers.proofs.Skipping.{pick_fits, reaches_on, reaches_less, holds_on}

-- the cut of a choice of the run
pub cut_fits : (s : Subject) (plan : PlanValue) (p : PickedValue) (cut : ℕ) → plan ≡ s.plan → cut ≡ p.cut → (n : ℕ) × IsRanked s.plan s.bound s.tears n p
    → cut ≤ length plan.log.entries
cut_fits s plan p cut same at member =
    subst (λ (q : PlanValue). cut ≤ length q.log.entries) (sym same)
    (subst (λ k. k ≤ length s.plan.log.entries) (sym at) (ranked_stands s.plan s.bound s.tears member.0 p member.1).within)

-- its place among the wanted cuts
pub place_fits : (s : Subject) (p : PickedValue) (place : ℕ) → place ≡ p.place → (n : ℕ) × IsRanked s.plan s.bound s.tears n p
    → place < length (cuts_of s.plan.kind s.plan.log.entries)
place_fits s p place at member =
    subst (λ k. k < length (cuts_of s.plan.kind s.plan.log.entries)) (sym at)
    (slice_get_within (cuts_of s.plan.kind s.plan.log.entries) p.place p.cut (ranked_stands s.plan s.bound s.tears member.0 p member.1).wanted)

-- its volatile parts
pub parts_are : (s : Subject) (plan : PlanValue) (p : PickedValue) (cut v : ℕ) → plan ≡ s.plan → cut ≡ p.cut → v ≡ length (volatile_parts plan.by plan.log.entries cut)
    → v ≡ parts_at s p
parts_are s plan p cut v same at e =
    e ∙ ap (λ k. length (volatile_parts plan.by plan.log.entries k)) at ∙ ap (λ (q : PlanValue). length (volatile_parts q.by q.log.entries p.cut)) same

-- the last of some departures
abbrev pub last_pick : List Pick → Pick → Pick
last_pick picks d = slice_index_or picks (length picks - 1) d

abbrev pub no_pick : Pick
no_pick = record { part = 0; fate = 0 }

-- these are the departures of a choice of the run, at least one, with that many fates
pub record HasLast (s : Subject) (tears : Bool) (p : PickedValue) (picks : List Pick) (m : ℕ) : Type 0 where
  pub tears_is : tears ≡ s.tears
  pub picks_is : picks ≡ p.picks
  pub some : false ≡ (length picks == 0)
  pub fates : m ≡ fates_of tears
  pub number : ℕ
  pub ranked : IsRanked s.plan s.bound s.tears number p

some_of : (n : ℕ) → false ≡ (n == 0) → 1 ≤ n
some_of zero h = absurd (let bad : false ≡ true = h in cc)
some_of (suc n) h = omega arith

long : (s : Subject) (tears : Bool) (p : PickedValue) (picks : List Pick) (m : ℕ) → HasLast s tears p picks m → length picks - 1 + 1 ≡ length p.picks
long s tears p picks m is =
    let one : 1 ≤ length picks = some_of (length picks) is.some in
    let e : length picks ≡ length p.picks = ap (λ (ds : List Pick). length ds) is.picks_is in
    omega (arith, one, e)

there : (s : Subject) (tears : Bool) (p : PickedValue) (picks : List Pick) (m : ℕ) (d : Pick) → HasLast s tears p picks m
    → slice_get p.picks (length picks - 1) ≡ Some (last_pick picks d)
there s tears p picks m d is =
    let one : 1 ≤ length picks = some_of (length picks) is.some in
    subst (λ (ds : List Pick). slice_get ds (length picks - 1) ≡ Some (last_pick picks d)) is.picks_is
    (slice_get-get_or picks (length picks - 1) d (omega (arith, one)))

fates_are : (s : Subject) (tears : Bool) (p : PickedValue) (picks : List Pick) (m : ℕ) → HasLast s tears p picks m → m ≡ fates_of s.tears
fates_are s tears p picks m is = is.fates ∙ ap (λ (t : Bool). fates_of t) is.tears_is

pub last_fits : (s : Subject) (tears : Bool) (p : PickedValue) (picks : List Pick) (m : ℕ) (d : Pick) (v : ℕ) → HasLast s tears p picks m → v ≡ parts_at s p
    → ((last_pick picks d).part < v) × ((last_pick picks d).fate < m)
last_fits s tears p picks m d v is parts =
    let fits = pick_fits s is.number (length picks - 1) p (last_pick picks d) is.ranked (there s tears p picks m d is) in
    (subst (λ k. (last_pick picks d).part < k) (sym parts) fits.0, subst (λ k. (last_pick picks d).fate < k) (sym (fates_are s tears p picks m is)) fits.1)

-- as far as the last part
pub reach_is : (s : Subject) (tears : Bool) (p : PickedValue) (picks : List Pick) (m : ℕ) (d : Pick) (v room count : ℕ) → HasLast s tears p picks m → v ≡ parts_at s p
    → v ≤ most_units → (last_pick picks d).part * m + (last_pick picks d).fate + room ≡ v * m → count ≤ room → Reaches s p count
reach_is s tears p picks m d v room count is parts few e le =
    reaches_less s p room count
    (reaches_on s p (length picks - 1) v room (last_pick picks d) parts few (long s tears p picks m is) (there s tears p picks m d is)
    (subst (λ k. (last_pick picks d).part * k + (last_pick picks d).fate + room ≡ v * k) (fates_are s tears p picks m is) e))
    le

-- where the last one isn't marked, its part isn't told
pub last_untold : (s : Subject) (tears : Bool) (p : PickedValue) (picks : List Pick) (m : ℕ) (d : Pick) (entries : List EntryValue) (found : KnownEntry)
    (at : IsFound entries p.picks found) → HasLast s tears p picks m → slice_index_or found.marks (length picks - 1) false ≡ false
    → tells at.entry.told (last_pick picks d).part ≡ false
last_untold s tears p picks m d entries found at is mark = at.holds.others (length picks - 1) (last_pick picks d) (there s tears p picks m d is) mark

-- as far as the next part that is told
pub holds_is : (s : Subject) (tears : Bool) (p : PickedValue) (picks : List Pick) (m : ℕ) (d : Pick) (entries : List EntryValue) (found : KnownEntry)
    (at : IsFound entries p.picks found) (next : Option ℕ) (count : ℕ) → HasLast s tears p picks m → slice_index_or found.marks (length picks - 1) false ≡ false
    → IsNextTold at.entry.told (last_pick picks d).part next
    → ((k : ℕ) → next ≡ Some k → (last_pick picks d).part * m + (last_pick picks d).fate + count ≤ k * m) → HoldsFrom s p found at.entry count
holds_is s tears p picks m d entries found at next count is mark told ends =
    holds_on s p entries found at is.number (length picks - 1) count (last_pick picks d) next is.ranked (long s tears p picks m is) (there s tears p picks m d is) mark told
    (λ k e. subst (λ f. (last_pick picks d).part * f + (last_pick picks d).fate + count ≤ k * f) (fates_are s tears p picks m is) (ends k e))
