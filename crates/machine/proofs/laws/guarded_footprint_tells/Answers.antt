use Rattle.machine.proofs.Guarded.{footprint_tells}
use Rattle.machine.proofs.laws.guarded_footprint_tells.Goals as goal

pub returns : goal.returns
returns c = footprint_tells
