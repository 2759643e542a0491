use Rattle.verifier.proofs.Exact.{acceptance_is_exact}
use Rattle.verifier.proofs.laws.acceptance_is_exact.Goals as goal

pub returns : goal.returns
returns c = acceptance_is_exact
