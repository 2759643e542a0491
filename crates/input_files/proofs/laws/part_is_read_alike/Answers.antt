use Rattle.input_files.proofs.PartTexts.{part_is_read_alike}
use Rattle.input_files.proofs.laws.part_is_read_alike.Goals as goal

pub returns : goal.returns
returns c = part_is_read_alike
