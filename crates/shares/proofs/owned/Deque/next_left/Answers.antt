use Rattle.std.proofs.Common.{◌≡◌, subst, sym}
use Rattle.crossbeam_deque.specs.Handles.{worker_view}
use Rattle.shares.specs.Owned.{DequeValue}
use Rattle.shares.proofs.Deques.{drains, drained}
use Rattle.shares.proofs.owned.Deque.next_left.Goals as goal

pub pop_as-requires-clause-fifo : goal.pop_as-requires-clause-fifo
pop_as-requires-clause-fifo g c =
    let parts : (worker_view c.self.inside.owner).parts ≡ g.H.Deal.workers = subst (λ (d : DequeValue). d.parts ≡ g.H.Deal.workers) (sym c.self.view_is) c.requires.parts in
    λ _. drains _ _ _ _ c.self.invariant.1 c.self.invariant.2 parts

pub pop_as-requires-clause-empty : goal.pop_as-requires-clause-empty
pop_as-requires-clause-empty g c =
    let parts : (worker_view c.self.inside.owner).parts ≡ g.H.Deal.workers = subst (λ (d : DequeValue). d.parts ≡ g.H.Deal.workers) (sym c.self.view_is) c.requires.parts in
    drained _ _ _ _ c.self.invariant.1 parts
