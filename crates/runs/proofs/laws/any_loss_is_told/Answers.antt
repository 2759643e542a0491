use Rattle.runs.proofs.ToldFail.{any_loss_told}
use Rattle.runs.proofs.laws.any_loss_is_told.Goals as goal

pub returns : goal.returns
returns c = any_loss_told c.losses_are_found.ensures
