use Rattle.join.proofs.Outsides.{below_said}
use Rattle.join.proofs.given.outcome.is_below.Goals as goal

pub returns-in-Some : goal.returns-in-Some
returns-in-Some c = below_said c.args.word.now c.in-Some.number c.args.bound c.is_within.result c.ranges.bound.fits c.in-Some.ensures c.is_within.ensures
