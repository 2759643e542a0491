use Rattle.std.proofs.Common.{sym}
use Rattle.helpers.specs.Filled.{length_filled}
use Rattle.helpers.proofs.filled.FilledDevice.sectors.Goals as goal

pub returns : goal.returns
returns c = rw (← c.self.view_is) (sym (length_filled c.self.inside.count c.self.inside.byte))
