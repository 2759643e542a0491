use Rattle.workers.proofs.Sets.{listed}
use Rattle.workers.proofs.laws.lines_are_set.Goals as goal

pub returns : goal.returns
returns c = listed
