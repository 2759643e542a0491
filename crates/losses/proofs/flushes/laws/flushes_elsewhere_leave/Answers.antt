use Rattle.losses.proofs.Elsewhere.{flushes_elsewhere_leave}
use Rattle.losses.proofs.flushes.laws.flushes_elsewhere_leave.Goals as goal

pub returns : goal.returns
returns c = flushes_elsewhere_leave
