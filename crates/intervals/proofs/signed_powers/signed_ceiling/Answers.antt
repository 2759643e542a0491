use Rattle.std.proofs.Common.{ℕ, ◌≡◌, ◌^◌, ◌<◌, ◌≤◌, ◌∙◌, sym, ap, ℤ, pos, arith}
use Rattle.std.specs.Prelude.{◌≤ℤ◌}
use Rattle.std.specs.Int.{cast_signed, w64}
use Rattle.std.proofs.lemmas.Int.{to_z_pos, ints}
use Rattle.intervals.specs.Rounding.{ceiling}
use Rattle.intervals.specs.SignedRounding.{signed_ceiling}
use Rattle.intervals.proofs.signed_powers.signed_ceiling.Goals as goal

ceiling_read : (z : ℤ) (k m : ℕ) → pos k ≡ z → m ≡ ceiling k → m < 2 ^ 63 → cast_signed w64 m ≡ signed_ceiling z
unfolding signed_ceiling
ceiling_read z k m e f h = to_z_pos w64 m h ∙ ap pos f ∙ ap signed_ceiling e

small : (k m : ℕ) → ((bits : ℕ) → k < 2 ^ bits → m < 2 ^ bits) → k < 2 ^ 63 → m < 2 ^ 63
small k m f h = f 63 h

pub overflow_cast-result : goal.overflow_cast-result
overflow_cast-result c = let s = small _ _ c.ceiling.ensures.small (omega (arith, ints, c.ranges.number, c.if-number-ge0.true)) in omega (arith, ints, s)

pub returns-then-number-ge0-clause-value : goal.returns-then-number-ge0-clause-value
returns-then-number-ge0-clause-value c =
    ceiling_read c.args.number _ _ (omega (arith, ints, c.ranges.number, c.if-number-ge0.true)) c.ceiling.ensures.value
    (small _ _ c.ceiling.ensures.small (omega (arith, ints, c.ranges.number, c.if-number-ge0.true)))

pub returns-then-number-ge0-clause-above : goal.returns-then-number-ge0-clause-above
returns-then-number-ge0-clause-above c =
    let s = small _ _ c.ceiling.ensures.small (omega (arith, ints, c.ranges.number, c.if-number-ge0.true)) in
    omega (arith, ints, s, c.ceiling.ensures.above, c.ranges.number, c.if-number-ge0.true)
