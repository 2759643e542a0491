use Rattle.export.proofs.Streaming.{and_finished, but_closed}
use Rattle.export.proofs.walk.ImageSource.write_all.Goals as goal

pub returns-in-Ok-clause-all : goal.returns-in-Ok-clause-all
returns-in-Ok-clause-all g c = and_finished _ _ _ _ _ c.in-Ok.ensures.all c.finish.ensures.all

pub returns-in-Ok-clause-part : goal.returns-in-Ok-clause-part
returns-in-Ok-clause-part g c = but_closed _ _ _ _ _ c.in-Ok.ensures.all c.finish.ensures.part
