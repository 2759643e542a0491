use Rattle.raw_log.proofs.Profile.{log_is_raw}
use Rattle.raw_log.proofs.laws.log_is_raw.Goals as goal

pub returns : goal.returns
returns c = log_is_raw
