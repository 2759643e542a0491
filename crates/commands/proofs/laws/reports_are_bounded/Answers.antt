use Rattle.commands.proofs.Lengths.{reports_are_bounded}
use Rattle.commands.proofs.laws.reports_are_bounded.Goals as goal

pub returns : goal.returns
returns c = reports_are_bounded
