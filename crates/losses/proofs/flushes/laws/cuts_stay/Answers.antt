use Rattle.losses.proofs.Added.{cuts_stay}
use Rattle.losses.proofs.flushes.laws.cuts_stay.Goals as goal

pub returns : goal.returns
returns c = cuts_stay
