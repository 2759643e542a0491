use Rattle.raw_log.proofs.NoFault.{raw_has_no_fault}
use Rattle.raw_log.proofs.laws.raw_has_no_fault.Goals as goal

pub returns : goal.returns
returns c = raw_has_no_fault
