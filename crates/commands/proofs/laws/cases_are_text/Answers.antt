use Rattle.commands.proofs.CaseGiven.{cases_are_text}
use Rattle.commands.proofs.laws.cases_are_text.Goals as goal

pub returns : goal.returns
returns c = cases_are_text
