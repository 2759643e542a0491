use Rattle.std.proofs.Common.{arith}
use Rattle.workers.proofs.Rising.{has_at, has_none}
use Rattle.workers.proofs.told.has.Goals as goal

pub returns-then-own-number : goal.returns-then-own-number
returns-then-own-number c = has_at c.args.numbers.now c.args.number c.loop-own.own-index c.requires c.loop-own.invariant (omega arith) c.if-own-number.true

pub returns : goal.returns
returns c = has_none c.args.numbers.now c.args.number (λ k lt. c.loop-own.invariant k (omega arith))
