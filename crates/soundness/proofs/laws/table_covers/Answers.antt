use Rattle.soundness.proofs.Tables.{table_covers}
use Rattle.soundness.proofs.laws.table_covers.Goals as goal

pub returns : goal.returns
returns c = table_covers
