use Rattle.std.proofs.Common.{arith}
use Rattle.cases.proofs.Alone.{left_whole, left_lost}
use Rattle.cases.proofs.fates.left_of.Goals as goal

pub returns-then-set-eq1 : goal.returns-then-set-eq1
returns-then-set-eq1 c = left_whole c.args.pieces c.args.set c.args.part c.args.unit (omega (arith, c.if-set-eq1.true))

pub returns-then-set-eq2 : goal.returns-then-set-eq2
returns-then-set-eq2 c = left_lost c.args.pieces c.args.set c.args.part c.args.unit (omega (arith, c.if-set-eq2.true))
