use Rattle.std.proofs.Common.{sym, ◌∙◌, arith}
use Rattle.ranges.proofs.Arrays.{joined_none, joined_more, joined_all}
use Rattle.ranges.specs.Kinds.{join}
use Rattle.ranges.specs.Seen.{kind_of}
use Rattle.ranges.specs.declared.value.Value.TheVariants as value
use Rattle.ranges.proofs.knowing.join_values_into.Goals as goal

pub loop-k-init : goal.loop-k-init
loop-k-init c = joined_none kind_of join c.args.x.now c.args.y.now value.Unset

pub returns-clause-values : goal.returns-clause-values
returns-clause-values c =
    joined_all kind_of join c.args.x.now c.args.y.now c.loop-k.x c.loop-k.k value.Unset (c.told-y ∙ sym c.told-x) (omega (arith, c.told-x)) c.loop-k.invariant

pub returns-clause-long : goal.returns-clause-long
returns-clause-long c = c.loop-k.invariant.long

pub loop-k-preserved : goal.loop-k-preserved
loop-k-preserved c =
    joined_more kind_of join c.args.x.now c.args.y.now c.loop-k.x c.loop-k.k _ _ c.join.result value.Unset (omega (arith, c.told-x)) (omega (arith, c.told-y)) c.loop-k.invariant c.join.ensures
