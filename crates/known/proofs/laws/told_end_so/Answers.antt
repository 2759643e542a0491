use Rattle.known.proofs.Truth.{told_end_so}
use Rattle.known.proofs.laws.told_end_so.Goals as goal

pub returns : goal.returns
returns c = told_end_so c.leaves_look_alike.ensures
