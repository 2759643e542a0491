use Rattle.images.proofs.Covering.{touching_tells}
use Rattle.images.proofs.laws.touching_tells.Goals as goal

pub returns : goal.returns
returns c = touching_tells
