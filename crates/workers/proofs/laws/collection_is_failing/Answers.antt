use Rattle.workers.proofs.Runs.{without_passed}
use Rattle.workers.proofs.laws.collection_is_failing.Goals as goal

pub returns : goal.returns
returns c = without_passed
