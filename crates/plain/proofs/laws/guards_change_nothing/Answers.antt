use Rattle.plain.proofs.GuardedRuns.{change_nothing}
use Rattle.plain.proofs.laws.guards_change_nothing.Goals as goal

pub returns : goal.returns
returns c = change_nothing
