use Rattle.case_text.proofs.Shown.{case_is_shown}
use Rattle.case_text.proofs.laws.case_is_shown.Goals as goal

pub returns : goal.returns
returns c = case_is_shown
