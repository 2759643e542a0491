use Rattle.logfmt.proofs.OneFault.{one_fault}
use Rattle.logfmt.proofs.laws.one_fault.Goals as goal

pub returns : goal.returns
returns c = one_fault
