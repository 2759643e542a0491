use Rattle.std.proofs.Common.{arith}
use Rattle.std.proofs.lemmas.Bool.Decides.{nat_tests}
use Rattle.cases.proofs.Alone.{told_none, told_whole, told_lost}
use Rattle.cases.proofs.fates.is_told.Goals as goal

pub returns-then-pieces-eq0 : goal.returns-then-pieces-eq0
returns-then-pieces-eq0 c = λ part unit is. told_none c.args.pieces c.args.set part unit (omega (arith, c.if-pieces-eq0.true))

pub returns-then-set-eq1 : goal.returns-then-set-eq1
returns-then-set-eq1 c = λ part unit is. told_whole c.args.pieces c.args.set part unit (omega (arith, c.if-set-eq1.true))

pub returns-else-set-eq1 : goal.returns-else-set-eq1
returns-else-set-eq1 c = λ part unit is. told_lost c.args.pieces c.args.set part unit (grind (arith, nat_tests, is))
