use Rattle.images.proofs.Bases.{epoch_has_base}
use Rattle.images.proofs.laws.epoch_has_base.Goals as goal

pub returns : goal.returns
returns c = epoch_has_base
