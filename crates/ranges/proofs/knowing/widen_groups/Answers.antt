use Rattle.std.proofs.Common.{arith}
use Rattle.ranges.proofs.Arrays.{joined_none, map_filled}
use Rattle.ranges.specs.Groups.{round_group}
use Rattle.ranges.specs.SeenStates.{group_of}
use Rattle.ranges.proofs.Nothing.{no_marks}
use Rattle.ranges.proofs.knowing.widen_groups.Goals as goal

pub loop-k-init : goal.loop-k-init
loop-k-init c = joined_none group_of (λ y other. round_group y) c.args.x.now c.args.x.now no_marks

pub returns-clause-groups : goal.returns-clause-groups
returns-clause-groups c =
    map_filled group_of round_group c.args.x.now c.loop-k.x no_marks c.loop-k.invariant.long (λ k small. c.loop-k.invariant.below k (omega (arith, small, c.told-x)))

pub returns-clause-long : goal.returns-clause-long
returns-clause-long c = c.loop-k.invariant.long
