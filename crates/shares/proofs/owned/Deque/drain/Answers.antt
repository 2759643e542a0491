use Rattle.shares.proofs.Deques.{draining_begins, draining_next, draining_ends}
use Rattle.shares.proofs.owned.Deque.drain.Goals as goal

pub loop-block-init : goal.loop-block-init
loop-block-init g c = draining_begins _ _ _

pub loop-block-preserved : goal.loop-block-preserved
loop-block-preserved g c =
    draining_next g.H.Deal.blocks c.args.self.now c.loop-block.self c.next_left.new.self c.args.left.now.items c.loop-block.left.items c.push.new.self.items c.in-Some.block c.loop-block.invariant c.in-Some.ensures.some.0
    c.in_ok-push.ensures.items c.in-Some.ensures.below c.in-Some.ensures.some.2

pub returns : goal.returns
returns g c = draining_ends g.H.Deal.blocks c.args.self.now c.loop-block.self c.args.left.now.items c.loop-block.left.items c.loop-block.invariant c.in_default.ensures.none
