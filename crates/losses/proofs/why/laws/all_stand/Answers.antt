use Rattle.losses.proofs.Standing.{all_stand}
use Rattle.losses.proofs.why.laws.all_stand.Goals as goal

pub returns : goal.returns
returns c = all_stand
