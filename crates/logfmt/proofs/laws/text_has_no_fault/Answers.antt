use Rattle.logfmt.proofs.NoFault.{text_has_no_fault}
use Rattle.logfmt.proofs.laws.text_has_no_fault.Goals as goal

pub returns : goal.returns
returns c = text_has_no_fault
