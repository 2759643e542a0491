use Rattle.commands.proofs.CaseOwn.{join_is_explore_of_cases_by_own}
use Rattle.commands.proofs.laws.join_is_explore_of_cases_by_own.Goals as goal

pub returns : goal.returns
returns c = join_is_explore_of_cases_by_own c.join_is_explore_of_cases.ensures
