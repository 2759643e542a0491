use Rattle.raw_log.proofs.OneFault.{one_raw_fault}
use Rattle.raw_log.proofs.laws.one_raw_fault.Goals as goal

pub returns : goal.returns
returns c = one_raw_fault
