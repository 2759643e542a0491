use Rattle.shares.proofs.Deques.{merges}
use Rattle.shares.proofs.owned.Deque.take_back.Goals as goal

pub absorb-requires-clause-rule : goal.absorb-requires-clause-rule
absorb-requires-clause-rule g c = merges _ _ _ _ _ _ c.self.invariant.1 c.self.invariant.2
