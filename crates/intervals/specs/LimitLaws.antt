-- What holds of the two ranges of a number: reducing loses no word, limits cover the words of the
-- machine, and smaller limits make smaller ones.
use Rattle.std.specs.Prelude.{◌≡◌, ℕ, ℤ, ◌^◌, ◌-◌, ◌<◌, ◌≤ℤ◌, ◌↔◌, ◌⊎◌, Bool, Option, None, Some}
use Rattle.std.specs.Option.{IsSomeAnd}
use Rattle.std.specs.Int.{w64}
use Rattle.std.specs.Int.RustNames.{FitsSigned}
use Rattle.bpf_isa.specs.declared.instr.Instr.{Instr}
use Rattle.bpf_isa.specs.declared.instr.Instr.TheVariants as instr
use Rattle.bpf_isa.specs.declared.instr.Source.{Source}
use Rattle.bpf_isa.specs.declared.instr.Width.{Width}
use Rattle.bpf_isa.specs.declared.instr.Operator.{Operator}
use Rattle.bpf_isa.specs.declared.instr.Operator.TheVariants as op
use Rattle.bpf_isa.specs.declared.instr.SignExtension.{SignExtension}
use Rattle.bpf_isa.specs.declared.instr.Order.{Order}
use Rattle.bpf_isa.specs.declared.instr.OrderSize.{OrderSize}
use Rattle.bpf_isa.specs.declared.instr.Condition.{Condition}
use Rattle.machine.specs.Arithmetic.{arithmetic, sign_extension, in_order, holds}
use Rattle.intervals.specs.Spans.{Span, Has, Within}
use Rattle.intervals.specs.Laws.{IsWordSpan}
use Rattle.intervals.specs.SignedSpans.{signed_full}
use Rattle.intervals.specs.Reducing.{Limits, limits, HasWord, LimitsWithin, reduction, IsWordLimits, IsLimits, AreAlike, AreMixed, any_sign, limits_hull}
use Rattle.intervals.specs.SignedRounding.{signed_floor, signed_ceiling, round_limits, limits_rounded, IsSignedFloor, IsSignedCeiling}
use Rattle.intervals.specs.SignedResults.{limits_result_of}
use Rattle.intervals.specs.SignedEdges.{limits_refined}

-- where there is a first, there is a second, to which it is related
abbrev pub Related : {A B : Type 0} → (A → B → Type 0) → Option A → Option B → Type 0
Related R None q = Unit {0}
Related R (Some p) None = ⊥
Related R (Some p) (Some q) = R p q

-- Reducing keeps the words that both ranges have, and finds no range empty that has one. A second
-- time it changes nothing, and of smaller ranges it makes smaller ones.
pub record Reduces : Type 0 where
  pub words : (x : Limits) (a : ℕ) → IsWordLimits x → a < 2 ^ 64 → HasWord x a ↔ IsSomeAnd (reduction x) (λ y. HasWord y a)
  pub shrinks : (x y : Limits) → IsWordLimits x → reduction x ≡ Some y → LimitsWithin y x
  pub idempotent : (x y : Limits) → IsWordLimits x → reduction x ≡ Some y → IsLimits y
  pub monotone : (x y : Limits) → IsWordLimits x → IsWordLimits y → LimitsWithin x y → Related LimitsWithin (reduction x) (reduction y)

-- Ranges are reduced just where both say the same, or both have numbers of both signs.
abbrev pub ReducedAgree : Type 0
ReducedAgree = (x : Limits) → IsWordLimits x → (reduction x ≡ Some x) ↔ (AreAlike x ⊎ AreMixed x)

-- The words of a range, whatever their readings are: the greatest limits that have these words alone.
pub record AnySign : Type 0 where
  pub reduces : (u : Span) → IsWordSpan u → reduction (limits u signed_full) ≡ Some (any_sign u)
  pub fits : (u : Span) → IsWordSpan u → IsLimits (any_sign u)
  pub words : (u : Span) (a : ℕ) → IsWordSpan u → Has u a ↔ HasWord (any_sign u) a
  pub greatest : (x : Limits) (u : Span) → IsLimits x → IsWordSpan u → Within x.unsigned u → LimitsWithin x (any_sign u)

-- The words that both ranges of the operands have lead to words of the result's, by the arithmetic of
-- the machine. Where there is no result no word is left. An operand that isn't read may have any limits.
pub record LimitResultsCover : Type 0 where
  pub operators : (w : Width) (o : Operator) (dst : ℕ) (from : Source) (x y : Limits) (a b : ℕ) → IsWordLimits x → IsWordLimits y → HasWord x a → HasWord y b
      → IsSomeAnd (limits_result_of (instr.Arithmetic w o dst from) x y) (λ z. HasWord z (arithmetic w o a b))
  pub opposites : (w : Width) (dst : ℕ) (x y : Limits) (a : ℕ) → IsWordLimits x → HasWord x a
      → IsSomeAnd (limits_result_of (instr.Negate w dst) x y) (λ z. HasWord z (arithmetic w op.Sub 0 a))
  pub signs : (e : SignExtension) (dst src : ℕ) (x y : Limits) (b : ℕ) → IsWordLimits y → HasWord y b
      → IsSomeAnd (limits_result_of (instr.SignExtend e dst src) x y) (λ z. HasWord z (sign_extension e b))
  pub orders : (o : Order) (size : OrderSize) (dst : ℕ) (x y : Limits) (a : ℕ) → IsWordLimits x → HasWord x a
      → IsSomeAnd (limits_result_of (instr.ByteOrder o size dst) x y) (λ z. HasWord z (in_order o size a))

-- a result, where there is one, is reduced
abbrev pub LimitResultsFit : Type 0
LimitResultsFit = (i : Instr) (x y z : Limits) → IsWordLimits x → IsWordLimits y → limits_result_of i x y ≡ Some z → IsLimits z

-- smaller limits have a smaller result, and none where larger ones have none
abbrev pub LimitResultsAreMonotone : Type 0
LimitResultsAreMonotone = (i : Instr) (x y s t : Limits) → IsWordLimits x → IsWordLimits y → IsWordLimits s → IsWordLimits t
    → LimitsWithin x s → LimitsWithin y t → Related LimitsWithin (limits_result_of i x y) (limits_result_of i s t)

-- where the test of the machine goes the way of an edge, the edge leaves the words that were tested
abbrev pub LimitRefinementsCover : Type 0
LimitRefinementsCover = (w : Width) (c : Condition) (dst : ℕ) (from : Source) (offset : ℤ) (taken : Bool) (x y : Limits) (a b : ℕ)
    → IsWordLimits x → IsWordLimits y → HasWord x a → HasWord y b → holds w c a b ≡ taken
    → IsSomeAnd (limits_refined (instr.Branch w c dst from offset) taken x y) (λ p. HasWord p.0 a × HasWord p.1 b)

-- an edge leaves reduced limits, none larger than before
abbrev pub LimitRefinementsFit : Type 0
LimitRefinementsFit = (i : Instr) (taken : Bool) (x y : Limits) (p : Limits × Limits) → IsLimits x → IsLimits y → limits_refined i taken x y ≡ Some p
    → IsLimits p.0 × IsLimits p.1 × LimitsWithin p.0 x × LimitsWithin p.1 y

-- what one edge leaves lies in what another leaves
abbrev pub BothWithin : Limits × Limits → Limits × Limits → Type 0
BothWithin p q = LimitsWithin p.0 q.0 × LimitsWithin p.1 q.1

-- smaller limits leave smaller ones, and take no edge that larger ones don't take
abbrev pub LimitRefinementsAreMonotone : Type 0
LimitRefinementsAreMonotone = (i : Instr) (taken : Bool) (x y s t : Limits) → IsWordLimits x → IsWordLimits y → IsWordLimits s → IsWordLimits t
    → LimitsWithin x s → LimitsWithin y t → Related BothWithin (limits_refined i taken x y) (limits_refined i taken s t)

-- the hull of two limits is the least that holds both, and it is the first where that holds the other
pub record LimitsHullIsLeast : Type 0 where
  pub first : (x y : Limits) → LimitsWithin x (limits_hull x y)
  pub other : (x y : Limits) → LimitsWithin y (limits_hull x y)
  pub least : (x y z : Limits) → LimitsWithin x z → LimitsWithin y z → LimitsWithin (limits_hull x y) z
  pub absorbs : (x y : Limits) → (limits_hull x y ≡ x) ↔ LimitsWithin y x
  pub fits : (x y : Limits) → IsLimits x → IsLimits y → IsLimits (limits_hull x y)

-- rounding goes to the nearest ends, loses no word, and makes of smaller limits smaller ones
pub record LimitsRound : Type 0 where
  pub low : (z : ℤ) → FitsSigned w64 z → IsSignedFloor z (signed_floor z)
  pub high : (z : ℤ) → FitsSigned w64 z → IsSignedCeiling z (signed_ceiling z)
  pub is_reduced : (x : Limits) → IsLimits x → reduction (round_limits x) ≡ Some (limits_rounded x)
  pub contains : (x : Limits) → IsLimits x → LimitsWithin x (limits_rounded x)
  pub fits : (x : Limits) → IsLimits x → IsLimits (limits_rounded x)
  pub monotone : (x y : Limits) → IsLimits x → IsLimits y → LimitsWithin x y → LimitsWithin (limits_rounded x) (limits_rounded y)
