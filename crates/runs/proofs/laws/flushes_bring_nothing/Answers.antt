use Rattle.runs.proofs.Flushing.{flushes_bring_nothing}
use Rattle.runs.proofs.laws.flushes_bring_nothing.Goals as goal

pub returns : goal.returns
returns c = flushes_bring_nothing c.flush_takes_away.ensures c.flushes_write_nothing.ensures
