use Rattle.std.proofs.Common.{sym, ◌∙◌, arith}
use Rattle.ranges.proofs.Arrays.{joined_none, joined_all}
use Rattle.ranges.specs.Groups.{join_group}
use Rattle.ranges.specs.SeenStates.{group_of}
use Rattle.ranges.proofs.Nothing.{no_marks}
use Rattle.ranges.proofs.knowing.join_groups_into.Goals as goal

pub loop-k-init : goal.loop-k-init
loop-k-init c = joined_none group_of join_group c.args.x.now c.args.y.now no_marks

pub returns-clause-groups : goal.returns-clause-groups
returns-clause-groups c =
    joined_all group_of join_group c.args.x.now c.args.y.now c.loop-k.x c.loop-k.k no_marks (c.told-y ∙ sym c.told-x) (omega (arith, c.told-x)) c.loop-k.invariant

pub returns-clause-long : goal.returns-clause-long
returns-clause-long c = c.loop-k.invariant.long
