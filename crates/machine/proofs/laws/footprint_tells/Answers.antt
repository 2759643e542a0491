use Rattle.machine.proofs.Footprints.{footprint_tells}
use Rattle.machine.proofs.laws.footprint_tells.Goals as goal

pub returns : goal.returns
returns c = footprint_tells
