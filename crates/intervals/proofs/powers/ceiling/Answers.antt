use Rattle.std.proofs.Common.{◌∙◌, sym, ap, arith}
use Rattle.intervals.specs.Rounding.{ceiling}
use Rattle.intervals.proofs.Digits.{ceiling_zero, ones_shifted, ceiling_nearest, ceiling_fits}
use Rattle.intervals.proofs.powers.ceiling.Goals as goal

pub returns-then-word-eq0-clause-value : goal.returns-then-word-eq0-clause-value
returns-then-word-eq0-clause-value c = sym ceiling_zero ∙ ap ceiling (sym c.if-word-eq0.true)

pub returns-else-word-eq0-clause-value : goal.returns-else-word-eq0-clause-value
returns-else-word-eq0-clause-value c = ones_shifted c.args.word c.ranges.word.fits

pub returns-else-word-eq0-clause-above : goal.returns-else-word-eq0-clause-above
returns-else-word-eq0-clause-above c =
    let e = ones_shifted c.args.word c.ranges.word.fits in
    let n = ceiling_nearest c.args.word c.ranges.word.fits in
    omega (arith, e, n.above)

pub returns-then-word-eq0-clause-small : goal.returns-then-word-eq0-clause-small
returns-then-word-eq0-clause-small c = λ bits less. omega (arith, less, c.if-word-eq0.true)

pub returns-else-word-eq0-clause-small : goal.returns-else-word-eq0-clause-small
returns-else-word-eq0-clause-small c =
    λ bits less.
    let e = ones_shifted c.args.word c.ranges.word.fits in
    omega (arith, e, ceiling_fits c.args.word bits c.ranges.word.fits less)
