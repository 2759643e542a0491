use Rattle.logfmt.proofs.Unique.{text_of_one_log}
use Rattle.logfmt.proofs.laws.text_of_one_log.Goals as goal

pub returns : goal.returns
returns c = text_of_one_log
