use Rattle.epochs.proofs.CutSets.{cuts_are_set}
use Rattle.epochs.proofs.laws.cuts_are_set.Goals as goal

pub returns : goal.returns
returns c = cuts_are_set
