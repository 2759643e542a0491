use Rattle.verifier.proofs.Unguarded.{accepted_has_no_guards}
use Rattle.verifier.proofs.laws.accepted_has_no_guards.Goals as goal

pub returns : goal.returns
returns c = accepted_has_no_guards
