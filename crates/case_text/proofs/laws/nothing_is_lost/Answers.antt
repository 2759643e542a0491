use Rattle.case_text.proofs.Shown.{nothing_is_lost}
use Rattle.case_text.proofs.laws.nothing_is_lost.Goals as goal

pub returns : goal.returns
returns c = nothing_is_lost
