use Rattle.known.proofs.Truth.{complete_has_all}
use Rattle.known.proofs.laws.complete_has_all.Goals as goal

pub returns : goal.returns
returns c = complete_has_all c.leaves_look_alike.ensures
