use Rattle.known.proofs.Rounds.{rounds_end}
use Rattle.known.proofs.laws.rounds_end.Goals as goal

pub returns : goal.returns
returns c = rounds_end
