use Rattle.std.proofs.Common.{◌≡◌}
use Rattle.ranges.specs.Kinds.{join}
use Rattle.ranges.specs.Reading.{value}
use Rattle.ranges.specs.Seen.{kind_of}
use Rattle.ranges.specs.SeenStates.{state_of}
use Rattle.ranges.proofs.Typed.{each_state_fits}
use Rattle.verifier.proofs.Ways.{tells_value}
use Rattle.verifier.proofs.learning.tell_value.Goals as goal

pub returns : goal.returns
returns c =
    let both : kind_of c.join.result ≡ join (value (state_of c.args.known.now) c.args.n) (kind_of c.args.new) = rw (← c.value_at-old.ensures) c.join.ensures in
    rw c.put_value.ensures
    (tells_value (state_of c.args.known.now) c.args.n (kind_of c.args.new) (kind_of c.join.result) (each_state_fits c.args.known.now) c.requires both)
