use Rattle.cases.proofs.Rows.{leaves_end_alike}
use Rattle.cases.proofs.laws.leaves_end_alike.Goals as goal

pub returns : goal.returns
returns c = leaves_end_alike
