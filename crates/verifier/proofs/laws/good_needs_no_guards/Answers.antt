use Rattle.verifier.proofs.Guards.{needs_no_guards}
use Rattle.verifier.proofs.laws.good_needs_no_guards.Goals as goal

pub returns : goal.returns
returns c = needs_no_guards
