use Rattle.raw_log.proofs.Profile.{one_import}
use Rattle.raw_log.proofs.laws.one_import.Goals as goal

pub returns : goal.returns
returns c = one_import
