use Rattle.export.proofs.Streaming.{puts_more}
use Rattle.export.proofs.text.put_new.Goals as goal

pub returns : goal.returns
returns g c = puts_more _ _ _ _ _ c.put.ensures c.put_records.ensures
