use Rattle.join.proofs.CaseLawful.{law}
use Rattle.join.proofs.laws.join_is_cases.Goals as goal

pub returns : goal.returns
returns c = law
