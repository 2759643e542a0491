use Rattle.case_text.proofs.Windowed.{window_is_told}
use Rattle.case_text.proofs.laws.window_is_told.Goals as goal

pub returns : goal.returns
returns c = window_is_told
