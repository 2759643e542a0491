use Rattle.raw_log.proofs.Profile.{imported_is_text}
use Rattle.raw_log.proofs.laws.imported_is_text.Goals as goal

pub returns : goal.returns
returns c = imported_is_text
