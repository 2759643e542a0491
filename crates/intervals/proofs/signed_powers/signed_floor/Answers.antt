use Rattle.std.proofs.Common.{ℕ, ◌≡◌, ◌^◌, ◌<◌, ◌≤◌, ◌∙◌, sym, ap, ℤ, pos, negsuc, arith}
use Rattle.std.specs.Prelude.{◌-ℤ◌, ◌≤ℤ◌}
use Rattle.std.specs.Int.{cast_signed, cast_unsigned, w64}
use Rattle.std.proofs.lemmas.Int.{ints}
use Rattle.intervals.specs.Rounding.{ceiling}
use Rattle.intervals.specs.SignedRounding.{signed_floor}
use Rattle.intervals.proofs.signed_powers.signed_floor.Goals as goal

floor_read : (z : ℤ) (k m : ℕ) → negsuc k ≡ z → m ≡ ceiling k → m < 2 ^ 63
    → cast_signed w64 (cast_unsigned w64 (negsuc 0 -ℤ cast_signed w64 m)) ≡ signed_floor z
unfolding signed_floor
floor_read z k m e f h =
    let a : cast_signed w64 (cast_unsigned w64 (negsuc 0 -ℤ cast_signed w64 m)) ≡ negsuc m = omega (arith, ints, h) in
    a ∙ ap negsuc f ∙ ap signed_floor e

small : (k m : ℕ) → ((bits : ℕ) → k < 2 ^ bits → m < 2 ^ bits) → k < 2 ^ 63 → m < 2 ^ 63
small k m f h = f 63 h

pub overflow_cast-result : goal.overflow_cast-result
overflow_cast-result c = let s = small _ _ c.ceiling.ensures.small (omega (arith, ints, c.ranges.number, c.if-number-ge0.false)) in omega (arith, ints, s)

pub returns-else-number-ge0-clause-value : goal.returns-else-number-ge0-clause-value
returns-else-number-ge0-clause-value c =
    floor_read c.args.number _ _ (omega (arith, ints, c.ranges.number, c.if-number-ge0.false)) c.ceiling.ensures.value
    (small _ _ c.ceiling.ensures.small (omega (arith, ints, c.ranges.number, c.if-number-ge0.false)))

pub returns-else-number-ge0-clause-below : goal.returns-else-number-ge0-clause-below
returns-else-number-ge0-clause-below c =
    let s = small _ _ c.ceiling.ensures.small (omega (arith, ints, c.ranges.number, c.if-number-ge0.false)) in
    omega (arith, ints, s, c.ceiling.ensures.above, c.ranges.number, c.if-number-ge0.false)
