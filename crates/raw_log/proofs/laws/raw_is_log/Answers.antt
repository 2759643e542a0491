use Rattle.raw_log.proofs.Profile.{raw_is_log}
use Rattle.raw_log.proofs.laws.raw_is_log.Goals as goal

pub returns : goal.returns
returns c = raw_is_log
