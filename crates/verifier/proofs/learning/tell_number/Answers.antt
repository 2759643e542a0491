use Rattle.intervals.specs.SeenBounds.{limits_of}
use Rattle.ranges.specs.SeenStates.{group_of, state_of}
use Rattle.ranges.proofs.Typed.{each_state_fits}
use Rattle.verifier.proofs.Ways.{tells_number}
use Rattle.verifier.proofs.learning.tell_number.Goals as goal

pub returns : goal.returns
returns c =
    rw c.put_group.ensures
    (tells_number (state_of c.args.known.now) c.args.n (group_of c.group_with-2.result) (limits_of c.in-Some.old) (limits_of c.args.new) (limits_of c.join.result)
    (each_state_fits c.args.known.now) c.requires c.in-Some.ensures c.join.ensures c.group_with-2.ensures)
