use Rattle.std.proofs.Common.{◌<◌, subst, sym}
use Rattle.crossbeam_deque.specs.Handles.{worker_view}
use Rattle.shares.specs.Owned.{DequeValue}
use Rattle.shares.proofs.Deques.{forks}
use Rattle.shares.proofs.owned.Deque.other.Goals as goal

pub another-pass-requires : goal.another-pass-requires
another-pass-requires g c =
    let parts : 1 < (worker_view c.self.inside.owner).parts = subst (λ (d : DequeValue). 1 < d.parts) (sym c.self.view_is) c.requires.parts in
    forks _ _ _ _ c.self.invariant.1 parts
