use Rattle.join.proofs.CasesAllJoin.{cases_are_joined}
use Rattle.join.proofs.laws.cases_are_joined.Goals as goal

pub returns : goal.returns
returns c = cases_are_joined
