use Rattle.std.proofs.Common.{slice_index}
use Rattle.lanes.proofs.Mixes.{joined_none, joined_more}
use Rattle.lanes.proofs.mixing.join.Goals as goal

pub loop-sum-init : goal.loop-sum-init
loop-sum-init c = joined_none (λ lane. slice_index c.args.sums lane)

pub loop-sum-preserved : goal.loop-sum-preserved
loop-sum-preserved c = joined_more (λ lane. slice_index c.args.sums lane) c.loop-sum.sum-index c.loop-sum.mixed c.loop-sum.invariant
