use Rattle.workers.proofs.Runs.{with_passed}
use Rattle.workers.proofs.laws.collection_begins_with_first.Goals as goal

pub returns : goal.returns
returns c = with_passed
