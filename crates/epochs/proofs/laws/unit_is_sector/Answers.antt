use Rattle.epochs.proofs.Contents.{unit_is_sector}
use Rattle.epochs.proofs.laws.unit_is_sector.Goals as goal

pub returns : goal.returns
returns c = unit_is_sector
