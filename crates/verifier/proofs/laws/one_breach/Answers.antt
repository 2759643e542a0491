use Rattle.verifier.proofs.Breaches.{one_breach}
use Rattle.verifier.proofs.laws.one_breach.Goals as goal

pub returns : goal.returns
returns c = one_breach
