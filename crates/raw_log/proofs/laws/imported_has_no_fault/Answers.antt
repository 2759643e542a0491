use Rattle.raw_log.proofs.NoFault.{imported_has_no_fault}
use Rattle.raw_log.proofs.laws.imported_has_no_fault.Goals as goal

pub returns : goal.returns
returns c = imported_has_no_fault
