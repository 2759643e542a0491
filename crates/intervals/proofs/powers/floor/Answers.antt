use Rattle.std.proofs.Common.{◌<◌, arith}
use Rattle.intervals.proofs.Digits.{first_shifted}
use Rattle.intervals.proofs.powers.floor.Goals as goal

pub returns-else-word-eq0-clause-below : goal.returns-else-word-eq0-clause-below
returns-else-word-eq0-clause-below c =
    let p : 0 < c.args.word = omega (arith, c.if-word-eq0.false) in
    first_shifted c.args.word p c.ranges.word.fits
