use Rattle.losses.proofs.Added.{flushes_write_nothing}
use Rattle.losses.proofs.flushes.laws.flushes_write_nothing.Goals as goal

pub returns : goal.returns
returns c = flushes_write_nothing
