-- What an edge of a conditional jump says of the limits of its operands (docs/VERIFIER.md,
-- Branches). x is the range of dst, y that of the second operand; None where one of
-- them would be empty, so that the edge isn't taken.
use Rattle.std.specs.Prelude.{ℕ, ℤ, pos, ◌+ℤ◌, ◌-ℤ◌, Bool, true, false, if◌then◌else◌, Option, Some}
use Rattle.std.specs.Option.{option_map, option_and_then}
use Rattle.bpf_isa.specs.declared.instr.Instr.{Instr}
use Rattle.bpf_isa.specs.declared.instr.Instr.TheVariants as instr
use Rattle.bpf_isa.specs.declared.instr.Width.TheVariants as width
use Rattle.bpf_isa.specs.declared.instr.Condition.{Condition}
use Rattle.bpf_isa.specs.declared.instr.Condition.TheVariants as cond
use Rattle.intervals.specs.SignedSpans.{SignedSpan, inhabited_signed, not_below, not_above, cut_between}
use Rattle.intervals.specs.Reducing.{Limits, limits, reduction}
use Rattle.intervals.specs.Edges.{condition_edge, is_same}

-- both, where there are both
abbrev pub both_of : {A : Type 0} → Option A → Option A → Option (A × A)
both_of p q = option_and_then (λ a. option_map (λ b. (a, b)) q) p

-- both ranges, where neither is empty
abbrev pub both_signed : SignedSpan → SignedSpan → Option (SignedSpan × SignedSpan)
both_signed x y = both_of (inhabited_signed x) (inhabited_signed y)

-- dst = second
unfoldable pub signed_equal : SignedSpan → SignedSpan → Option (SignedSpan × SignedSpan)
signed_equal x y = both_signed (cut_between x y.low y.high) (cut_between x y.low y.high)

-- dst > second
unfoldable pub signed_above : SignedSpan → SignedSpan → Option (SignedSpan × SignedSpan)
signed_above x y = both_signed (not_below x (y.low +ℤ pos 1)) (not_above y (x.high -ℤ pos 1))

-- dst ≤ second
unfoldable pub signed_at_most : SignedSpan → SignedSpan → Option (SignedSpan × SignedSpan)
signed_at_most x y = both_signed (not_above x y.high) (not_below y x.low)

-- dst ≥ second
unfoldable pub signed_at_least : SignedSpan → SignedSpan → Option (SignedSpan × SignedSpan)
signed_at_least x y = both_signed (not_below x y.low) (not_above y x.high)

-- dst < second
unfoldable pub signed_below : SignedSpan → SignedSpan → Option (SignedSpan × SignedSpan)
signed_below x y = both_signed (not_above x (y.high -ℤ pos 1)) (not_below y (x.low +ℤ pos 1))

-- the edge of a condition that holds, or does not; that two numbers differ tells nothing of signed
-- ranges, nor do the unsigned orders
unfoldable pub signed_narrowed : Condition → Bool → SignedSpan → SignedSpan → Option (SignedSpan × SignedSpan)
signed_narrowed cond.Eq true x y = signed_equal x y
signed_narrowed cond.Ne false x y = signed_equal x y
signed_narrowed cond.SignedGt true x y = signed_above x y
signed_narrowed cond.SignedGt false x y = signed_at_most x y
signed_narrowed cond.SignedGe true x y = signed_at_least x y
signed_narrowed cond.SignedGe false x y = signed_below x y
signed_narrowed cond.SignedLt true x y = signed_below x y
signed_narrowed cond.SignedLt false x y = signed_at_least x y
signed_narrowed cond.SignedLe true x y = signed_at_most x y
signed_narrowed cond.SignedLe false x y = signed_above x y
signed_narrowed _ _ x y = Some (x, y)

-- the edge of a condition, for both ranges of each operand
unfoldable pub limits_narrowed : Condition → Bool → Limits → Limits → Option (Limits × Limits)
limits_narrowed c taken x y =
    option_and_then
    (λ u. option_and_then (λ s. both_of (reduction (limits u.0 s.0)) (reduction (limits u.1 s.1))) (signed_narrowed c taken x.signed y.signed))
    (condition_edge c taken x.unsigned y.unsigned)

-- the edge of a jump: only a test of two operands in 64 bits tells something
unfoldable pub limits_refined : Instr → Bool → Limits → Limits → Option (Limits × Limits)
limits_refined (instr.Branch width.W64 c dst from offset) taken x y =
    if is_same dst from then Some (x, y) else limits_narrowed c taken x y
limits_refined _ taken x y = Some (x, y)
