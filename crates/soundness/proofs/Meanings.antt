-- What values, groups and states mean.
use Rattle.std.proofs.Common.{◌≡◌, ◌<◌, ◌≤◌, ◌^◌, ℕ, zero, suc, Bool, true, false, List, [], ◌∷◌, get_or, Option, Some, None, refl, arith}
use Rattle.machine.specs.State.{State}
use Rattle.intervals.specs.Spans.{Span, span, Has, Within}
use Rattle.intervals.specs.Reducing.{HasWord, any_sign}
use Rattle.intervals.proofs.Outcomes as limits
use Rattle.ranges.specs.Kinds.{Kind, Unset, Word, Num, Ctx, Stack, Sector, SectorOrNull, is_unknown, is_unset}
use Rattle.ranges.specs.Groups.{GroupKind, Marked, Spilled}
use Rattle.ranges.specs.States.{Abstract}
use Rattle.ranges.specs.Order.{Under, MarksUnder, GroupUnder, EachUnder, StateUnder}
use Rattle.ranges.specs.Reading.{value}
use Rattle.soundness.specs.Meaning.{Describes, Means, GroupMeans, CoversFrame, Covers, frame_number, last_stack}

-- a set value is that of a word
pub means_word : (sectors frame : ℕ) (k : Kind) (c : Option ℕ) → is_unknown k ≡ false → Means sectors frame k c
    → (w : ℕ) × (c ≡ Some w) × Describes sectors frame k w
means_word sectors frame Unset c e m = absurd (let bad : true ≡ false = e in cc)
means_word sectors frame Word c e m = absurd (let bad : true ≡ false = e in cc)
means_word sectors frame (Num x) c e m = m
means_word sectors frame (Ctx o) c e m = m
means_word sectors frame (Stack o) c e m = m
means_word sectors frame (Sector x) c e m = m
means_word sectors frame SectorOrNull c e m = m

-- so is one that isn't unset
pub means_set : (sectors frame : ℕ) (k : Kind) (c : Option ℕ) → is_unset k ≡ false → Means sectors frame k c → (w : ℕ) × (c ≡ Some w) × Describes sectors frame k w
means_set sectors frame Unset c e m = absurd (let bad : true ≡ false = e in cc)
means_set sectors frame Word c e m = m
means_set sectors frame (Num x) c e m = m
means_set sectors frame (Ctx o) c e m = m
means_set sectors frame (Stack o) c e m = m
means_set sectors frame (Sector x) c e m = m
means_set sectors frame SectorOrNull c e m = m

pub word_means : (sectors frame : ℕ) (k : Kind) (w : ℕ) → Describes sectors frame k w → Means sectors frame k (Some w)
word_means sectors frame Unset w d = tt
word_means sectors frame Word w d = (w, refl, d)
word_means sectors frame (Num x) w d = (w, refl, d)
word_means sectors frame (Ctx o) w d = (w, refl, d)
word_means sectors frame (Stack o) w d = (w, refl, d)
word_means sectors frame (Sector x) w d = (w, refl, d)
word_means sectors frame SectorOrNull w d = (w, refl, d)

-- a word of a range, whatever its reading is
pub word_in : (low high w : ℕ) → high < 2 ^ 64 → low ≤ w → w ≤ high → HasWord (any_sign (span low high)) w
word_in low high w fits from upto =
    limits.any_has (span low high) w (record { ordered = omega (arith, from, upto); most = omega (arith, fits) }) (record { from = from; upto = upto })

-- the order of values

has_within : (x y : Span) (a : ℕ) → Within x y → Has x a → Has y a
has_within x y a p h = record { from = omega (arith, p.from, h.from); upto = omega (arith, p.upto, h.upto) }

described_under : (sectors frame : ℕ) (k l : Kind) (w : ℕ) → Under k l → Describes sectors frame k w → Describes sectors frame l w
described_under sectors frame k Unset w p d = tt
described_under sectors frame k Word w p d = tt
described_under sectors frame (Num x) (Num y) w p d = limits.within_has x y w p d
described_under sectors frame (Ctx a) (Ctx b) w p d = rw (← p) d
described_under sectors frame (Stack a) (Stack b) w p d = rw (← p) d
described_under sectors frame (Sector x) (Sector y) w p d = (d.0, d.1, d.2, has_within x y d.1 p d.3, d.4)
described_under sectors frame SectorOrNull SectorOrNull w p d = d
described_under sectors frame k l w p d = absurd p

never_unset : (k l : Kind) → is_unset l ≡ false → Under k l → is_unset k ≡ false
never_unset Unset l e p = by l e p
  where
    by : (l : Kind) → is_unset l ≡ false → Under Unset l → is_unset Unset ≡ false
    by Unset e p = e
    by _ e p = absurd p
never_unset _ l e p = refl

means_some : (sectors frame : ℕ) (l : Kind) (c : Option ℕ) → (is_unset l ≡ false → (w : ℕ) × (c ≡ Some w) × Describes sectors frame l w) → Means sectors frame l c
means_some sectors frame Unset c f = tt
means_some sectors frame Word c f = f refl
means_some sectors frame (Num x) c f = f refl
means_some sectors frame (Ctx o) c f = f refl
means_some sectors frame (Stack o) c f = f refl
means_some sectors frame (Sector x) c f = f refl
means_some sectors frame SectorOrNull c f = f refl

pub means_under : (sectors frame : ℕ) (k l : Kind) (c : Option ℕ) → Under k l → Means sectors frame k c → Means sectors frame l c
means_under sectors frame k l c p m =
    means_some sectors frame l c (λ e. let h = means_set sectors frame k c (never_unset k l e p) m in (h.0, h.1, described_under sectors frame k l h.0 p h.2))

-- the order of groups

mark_under : (xs ys : List Bool) (k : ℕ) → MarksUnder xs ys → get_or ys k false ≡ true → get_or xs k false ≡ true
mark_under [] [] k p e = e
mark_under [] (y ∷ ys) k p e = absurd p
mark_under (x ∷ xs) [] k p e = absurd p
mark_under (x ∷ xs) (y ∷ ys) zero p e = p.0 e
mark_under (x ∷ xs) (y ∷ ys) (suc k) p e = mark_under xs ys k p.1 e

group_under : (sectors frame : ℕ) (g h : GroupKind) (stack : List (Option ℕ)) (i : ℕ) → GroupUnder g h → GroupMeans sectors frame g stack i → GroupMeans sectors frame h stack i
group_under sectors frame (Marked xs) (Marked ys) stack i p m = λ k lt e. m k lt (mark_under xs ys k p e)
group_under sectors frame (Spilled x) (Marked ys) stack i p m = λ k lt e. m.0 k lt
group_under sectors frame (Spilled x) (Spilled y) stack i p m = (m.0, means_under sectors frame x y _ p m.1)
group_under sectors frame (Marked xs) (Spilled y) stack i p m = absurd p

-- the order of states

pub each_at : {X : Type 0} (R : X → X → Type 0) (xs ys : List X) (i : ℕ) (d : X) → R d d → EachUnder R xs ys → R (get_or xs i d) (get_or ys i d)
each_at R [] [] i d h p = h
each_at R [] (y ∷ ys) i d h p = absurd p
each_at R (x ∷ xs) [] i d h p = absurd p
each_at R (x ∷ xs) (y ∷ ys) zero d h p = p.0
each_at R (x ∷ xs) (y ∷ ys) (suc i) d h p = each_at R xs ys i d h p.1

pub frame_under : (sectors frame : ℕ) (known less : Abstract) (words stack : List (Option ℕ)) → StateUnder known less
    → CoversFrame sectors frame known words stack → CoversFrame sectors frame less words stack
frame_under sectors frame known less words stack p c = record {
  registers = λ r. means_under sectors frame (value known r) (value less r) (get_or words r None) (each_at Under known.values less.values r Unset tt p.values) (c.registers r);
  groups = λ g. group_under sectors frame (get_or known.groups g (Marked [])) (get_or less.groups g (Marked [])) stack g
      (each_at GroupUnder known.groups less.groups g (Marked []) tt p.groups) (c.groups g);
}

pub covers_under : (sectors : ℕ) (known less : Abstract) (s : State) → StateUnder known less → Covers sectors known s → Covers sectors less s
covers_under sectors known less s p c = frame_under sectors (frame_number s.frames) known less s.registers (last_stack s.frames) p c
