use Rattle.machine.proofs.Filled.{no_fault}
use Rattle.machine.proofs.laws.no_memory_fault.Goals as goal

pub returns : goal.returns
returns c = no_fault
