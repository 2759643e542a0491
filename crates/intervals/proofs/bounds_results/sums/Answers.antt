use Rattle.std.proofs.Common.{◌≡◌, None, ◌+ℤ◌, FitsSigned, arith}
use Rattle.std.specs.Int.{cast_signed, cast_unsigned, w64}
use Rattle.std.proofs.lemmas.Int.{ints}
use Rattle.intervals.proofs.SignedSums.{low_leaves, high_leaves, both_stay}
use Rattle.intervals.proofs.bounds_results.sums.Goals as goal

pub returns-in_err-low : goal.returns-in_err-low
returns-in_err-low c =
    let gone : c.from_residual.result ≡ None = grind arith in
    rw gone
    (low_leaves (c.args.x.low +ℤ c.args.y.low) (c.args.x.high +ℤ c.args.y.high) (λ f. c.in_err-low.ensures (omega (arith, ints, f, c.args.x.low_fits, c.args.y.low_fits)))
    (omega (arith, ints, c.args.x.ordered, c.args.y.ordered)))

pub returns-in_err-high : goal.returns-in_err-high
returns-in_err-high c =
    let gone : c.from_residual-in_err-high.result ≡ None = grind arith in
    rw gone
    (high_leaves (c.args.x.low +ℤ c.args.y.low) (c.args.x.high +ℤ c.args.y.high) (λ f. c.in_err-high.ensures (omega (arith, ints, f, c.args.x.high_fits, c.args.y.high_fits)))
    (omega (arith, ints, c.args.x.ordered, c.args.y.ordered)))

pub returns : goal.returns
returns c =
    let f : FitsSigned w64 (c.args.x.low +ℤ c.args.y.low) = omega (arith, ints, c.in_ok-low.ensures.0, c.args.x.low_fits, c.args.y.low_fits) in
    let g : FitsSigned w64 (c.args.x.high +ℤ c.args.y.high) = omega (arith, ints, c.in_ok-high.ensures.0, c.args.x.high_fits, c.args.y.high_fits) in
    let low : cast_signed w64 (cast_unsigned w64 c.in_ok-low.low) ≡ c.args.x.low +ℤ c.args.y.low =
    omega (arith, ints, f, c.in_ok-low.ensures.1, c.args.x.low_fits, c.args.y.low_fits) in
    let high : cast_signed w64 (cast_unsigned w64 c.in_ok-high.high) ≡ c.args.x.high +ℤ c.args.y.high =
    omega (arith, ints, g, c.in_ok-high.ensures.1, c.args.x.high_fits, c.args.y.high_fits) in
    both_stay (c.args.x.low +ℤ c.args.y.low) (c.args.x.high +ℤ c.args.y.high) _ _ f g low high
