use Rattle.lanes.proofs.Mixes.{row_added}
use Rattle.lanes.proofs.mixing.add_row.Goals as goal

pub returns : goal.returns
returns c = row_added c.args.sums c.args.words c.fits-sums.0 c.fits-words.0
