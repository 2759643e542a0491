use Rattle.cases.proofs.Rows.{leaves_look_alike}
use Rattle.cases.proofs.laws.leaves_look_alike.Goals as goal

pub returns : goal.returns
returns c = leaves_look_alike
