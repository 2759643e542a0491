use Rattle.shares.proofs.Deques.{takes_mark}
use Rattle.shares.proofs.owned.Deque.push_mark.Goals as goal

pub push_as-requires-clause-pushes : goal.push_as-requires-clause-pushes
push_as-requires-clause-pushes g c = takes_mark _ _ _ _ c.self.invariant.1 c.self.invariant.2
