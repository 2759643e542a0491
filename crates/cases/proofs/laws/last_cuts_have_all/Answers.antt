use Rattle.cases.proofs.Cuts.{last_cuts_have_all}
use Rattle.cases.proofs.laws.last_cuts_have_all.Goals as goal

pub returns : goal.returns
returns c = last_cuts_have_all
