use Rattle.known.proofs.Truth.{last_cuts_have_all}
use Rattle.known.proofs.laws.last_cuts_have_all.Goals as goal

pub returns : goal.returns
returns c = last_cuts_have_all c.leaves_look_alike.ensures c.last_cuts_have_all.ensures
