use Rattle.std.proofs.Common.{map}
use Rattle.ranges.specs.Seen.{kind_of}
use Rattle.ranges.specs.SeenStates.{group_of}
use Rattle.ranges.proofs.Arrays.{mapped_set}
use Rattle.verifier.proofs.learning.put_value.Goals as goal

pub returns : goal.returns
returns c = λ i. record {
  values = mapped_set kind_of c.args.state.now.values c.args.n c.args.value i;
  groups = map group_of c.args.state.now.groups;
}
