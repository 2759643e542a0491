use Rattle.verifier.proofs.Settled.{settled_is_good}
use Rattle.verifier.proofs.laws.settled_is_good.Goals as goal

pub returns : goal.returns
returns c = settled_is_good
