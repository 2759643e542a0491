use Rattle.machine.proofs.Guarded.{one_end}
use Rattle.machine.proofs.laws.one_guarded_end.Goals as goal

pub returns : goal.returns
returns c = one_end
