use Rattle.raw_log.proofs.Unique.{raw_of_one_log}
use Rattle.raw_log.proofs.laws.raw_of_one_log.Goals as goal

pub returns : goal.returns
returns c = raw_of_one_log
