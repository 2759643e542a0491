use Rattle.machine.proofs.Verdicts.{keep_verdicts}
use Rattle.machine.proofs.laws.guards_keep_verdicts.Goals as goal

pub returns : goal.returns
returns c = keep_verdicts
