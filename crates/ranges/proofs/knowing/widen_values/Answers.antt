use Rattle.std.proofs.Common.{arith}
use Rattle.ranges.proofs.Arrays.{joined_none, joined_more, map_filled}
use Rattle.ranges.specs.Kinds.{round}
use Rattle.ranges.specs.Seen.{kind_of}
use Rattle.ranges.specs.declared.value.Value.TheVariants as value
use Rattle.ranges.proofs.knowing.widen_values.Goals as goal

pub loop-k-init : goal.loop-k-init
loop-k-init c = joined_none kind_of (λ y other. round y) c.args.x.now c.args.x.now value.Unset

pub returns-clause-values : goal.returns-clause-values
returns-clause-values c =
    map_filled kind_of round c.args.x.now c.loop-k.x value.Unset c.loop-k.invariant.long (λ k small. c.loop-k.invariant.below k (omega (arith, small, c.told-x)))

pub returns-clause-long : goal.returns-clause-long
returns-clause-long c = c.loop-k.invariant.long

pub loop-k-preserved : goal.loop-k-preserved
loop-k-preserved c =
    joined_more kind_of (λ y other. round y) c.args.x.now c.args.x.now c.loop-k.x c.loop-k.k _ value.Unset c.round.result value.Unset (omega (arith, c.told-x)) (omega (arith, c.told-x)) c.loop-k.invariant c.round.ensures.value
