use Rattle.verifier.proofs.Breaches.{good_has_no_breach}
use Rattle.verifier.proofs.laws.good_has_no_breach.Goals as goal

pub returns : goal.returns
returns c = good_has_no_breach
