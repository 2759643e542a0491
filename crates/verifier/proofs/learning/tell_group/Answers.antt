use Rattle.std.proofs.Common.{◌≡◌, [], slice_index_or}
use Rattle.ranges.specs.Groups.{Marked, join_group}
use Rattle.ranges.specs.SeenStates.{group_of, state_of}
use Rattle.ranges.proofs.Typed.{each_state_fits}
use Rattle.verifier.proofs.Ways.{tells_group}
use Rattle.verifier.proofs.learning.tell_group.Goals as goal

pub returns : goal.returns
returns c =
    let both : group_of c.join.result ≡ join_group (slice_index_or (state_of c.args.known.now).groups c.args.n (Marked [])) (group_of c.args.new) =
    rw (← c.group_at-old.ensures) c.join.ensures in
    rw c.put_group.ensures
    (tells_group (state_of c.args.known.now) c.args.n (group_of c.args.new) (group_of c.join.result) (each_state_fits c.args.known.now) c.requires both)
