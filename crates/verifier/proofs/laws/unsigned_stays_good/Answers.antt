use Rattle.verifier.proofs.Staying.{good_stays}
use Rattle.verifier.proofs.laws.unsigned_stays_good.Goals as goal

pub returns : goal.returns
returns c = good_stays
