use Rattle.verifier.proofs.Exact.{rounds_end}
use Rattle.verifier.proofs.laws.rounds_end.Goals as goal

pub returns : goal.returns
returns c = rounds_end
