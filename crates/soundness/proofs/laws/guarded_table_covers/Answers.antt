use Rattle.soundness.proofs.LooseTables.{guarded_table_covers}
use Rattle.soundness.proofs.laws.guarded_table_covers.Goals as goal

pub returns : goal.returns
returns c = guarded_table_covers
