use Rattle.std.proofs.Common.{arith}
use Rattle.shares.proofs.Deques.{steals}
use Rattle.shares.proofs.owned.Other.steal.Goals as goal

pub steal_as-requires-clause-takes : goal.steal_as-requires-clause-takes
steal_as-requires-clause-takes g c = steals _ _ _ _ (omega (arith, c.self.invariant.0)) (omega (arith, c.self.invariant.0, c.self.invariant.1 c.if-self.false))
