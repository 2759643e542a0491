use Rattle.std.proofs.Common.{◌≡◌, ◌∙◌, ◌∷◌, [], length, append_assoc, ap, arith}
use Rattle.std.specs.Vec.Iter.{into_iter_items}
use Rattle.shares.specs.Owned.{DequeValue}
use Rattle.shares.proofs.Reunion.{left_next}
use Rattle.shares.proofs.Seats.{all_middle}
use Rattle.shares.proofs.meeting.drain_all.Goals as goal

pub drain-requires : goal.drain-requires
drain-requires g c =
    let at = c.loop-deque in
    let x = c.in-Some.deque in
    let steps : into_iter_items at.deque-iterator ≡ x ∷ into_iter_items c.next.new.self = c.in-Some.ensures.steps.0 in
    let all = at.invariant.0 ∙ c.into_iter-deque-iterator.ensures.into_iter_gives.0 in
    record { parts = all_middle (λ (d : DequeValue). d.parts ≡ g.H.Deal.workers) at.yielded (into_iter_items c.next.new.self) c.args.deques.items x (rw (← steps) all) c.requires.parts }

pub loop-deque-preserved : goal.loop-deque-preserved
loop-deque-preserved g c =
    let at = c.loop-deque in
    let x = c.in-Some.deque in
    let steps : into_iter_items at.deque-iterator ≡ x ∷ into_iter_items c.next.new.self = c.in-Some.ensures.steps.0 in (
      append_assoc at.yielded (x ∷ []) _ ∙ rw (← steps) at.invariant.0,
      left_next g.H.Deal.blocks at.yielded x c.args.left.now.items at.left.items c.drain.new.left.items at.invariant.1 c.in_ok-drain.ensures,
      let was = at.invariant.2 in
          let gone = c.in-Some.ensures.steps.1 in
          let short = ap length steps in
          omega arith,
    )
