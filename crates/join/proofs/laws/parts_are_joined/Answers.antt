use Rattle.join.proofs.OfRuns.{parts_are_joined}
use Rattle.join.proofs.laws.parts_are_joined.Goals as goal

pub returns : goal.returns
returns c = parts_are_joined
