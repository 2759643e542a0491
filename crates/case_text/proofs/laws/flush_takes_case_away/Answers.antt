use Rattle.case_text.proofs.Taking.{flush_takes_case_away}
use Rattle.case_text.proofs.laws.flush_takes_case_away.Goals as goal

pub returns : goal.returns
returns c = flush_takes_case_away
