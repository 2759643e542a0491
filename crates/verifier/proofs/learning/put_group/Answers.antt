use Rattle.std.proofs.Common.{map}
use Rattle.ranges.specs.Seen.{kind_of}
use Rattle.ranges.specs.SeenStates.{group_of}
use Rattle.ranges.proofs.Arrays.{mapped_set}
use Rattle.verifier.proofs.learning.put_group.Goals as goal

pub returns : goal.returns
returns c = λ i. record {
  values = map kind_of c.args.state.now.values;
  groups = mapped_set group_of c.args.state.now.groups c.args.n c.args.group i;
}
