use Rattle.std.proofs.Common.{arith}
use Rattle.choices.proofs.Ranks.{sought}
use Rattle.choices.proofs.rank.nth_of_size.Goals as goal

pub returns : goal.returns
returns c = sought _ _ _ _ _ _ _ (omega (arith, c.loop-taken-test.false)) c.loop-taken.invariant.1
