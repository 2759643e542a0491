use Rattle.verifier.proofs.Verdict.{one_verdict}
use Rattle.verifier.proofs.laws.one_verdict.Goals as goal

pub returns : goal.returns
returns c = one_verdict c.one_fault.ensures c.no_fault_in_shaped.ensures
