use Rattle.losses.proofs.Elsewhere.{no_flush_helps}
use Rattle.losses.proofs.flushes.laws.no_flush_helps.Goals as goal

pub returns : goal.returns
returns c = no_flush_helps
