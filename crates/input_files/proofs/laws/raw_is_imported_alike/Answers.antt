use Rattle.input_files.proofs.Kept.{imported_alike}
use Rattle.input_files.proofs.laws.raw_is_imported_alike.Goals as goal

pub returns : goal.returns
returns c = imported_alike
