use Rattle.soundness.proofs.Meanings.{means_under, covers_under}
use Rattle.soundness.proofs.laws.order_keeps_meaning.Goals as goal

pub returns : goal.returns
returns c = record { values = means_under; states = covers_under }
