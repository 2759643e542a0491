use Rattle.std.proofs.Common.{arith}
use Rattle.shares.proofs.Deques.{pops, pops_none}
use Rattle.shares.proofs.owned.Deque.pop.Goals as goal

pub pop_as-requires-clause-fifo : goal.pop_as-requires-clause-fifo
pop_as-requires-clause-fifo g c = λ _. pops _ _ _ _ c.self.invariant.1 c.self.invariant.2

pub pop_as-requires-clause-empty : goal.pop_as-requires-clause-empty
pop_as-requires-clause-empty g c = pops_none _ _ _ _ c.self.invariant.1 c.self.invariant.2
