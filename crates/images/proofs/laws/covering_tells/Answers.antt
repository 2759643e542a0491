use Rattle.images.proofs.Covering.{covering_tells}
use Rattle.images.proofs.laws.covering_tells.Goals as goal

pub returns : goal.returns
returns c = covering_tells
