use Rattle.losses.proofs.Away.{flush_takes_away}
use Rattle.losses.proofs.flushes.laws.flush_takes_away.Goals as goal

pub returns : goal.returns
returns c = flush_takes_away
