use Rattle.lanes.proofs.Sectors.{put_row}
use Rattle.lanes.proofs.rows.store_row.Goals as goal

pub returns : goal.returns
returns c = put_row c.args.bytes.now c.args.lanes c.args.row c.requires c.fits-lanes.0
