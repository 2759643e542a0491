use Rattle.std.proofs.Common.{◌≡◌, subst, sym}
use Rattle.crossbeam_deque.specs.Handles.{worker_view}
use Rattle.shares.specs.Owned.{DequeValue}
use Rattle.shares.proofs.Deques.{takes_in}
use Rattle.shares.proofs.owned.Deque.push.Goals as goal

pub push_as-requires-clause-pushes : goal.push_as-requires-clause-pushes
push_as-requires-clause-pushes g c =
    let none : (worker_view c.self.inside.owner).marks_pushed ≡ 0 = subst (λ (d : DequeValue). d.marks_pushed ≡ 0) (sym c.self.view_is) c.requires.unmarked in
    takes_in _ _ _ _ c.args.block c.self.invariant.1 c.self.invariant.2 none c.requires.block
