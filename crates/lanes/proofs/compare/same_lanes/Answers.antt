use Rattle.lanes.proofs.Sectors.{mask_tells}
use Rattle.lanes.proofs.compare.same_lanes.Goals as goal

pub returns : goal.returns
returns c = mask_tells c.args.left c.args.right c.fits-left.0 c.fits-right.0
