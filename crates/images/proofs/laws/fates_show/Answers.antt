use Rattle.images.proofs.Fates.{fates_show}
use Rattle.images.proofs.laws.fates_show.Goals as goal

pub returns : goal.returns
returns c = fates_show
