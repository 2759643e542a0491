use Rattle.input_files.proofs.Standing.{short}
use Rattle.input_files.proofs.laws.short_stands_for_itself.Goals as goal

pub returns : goal.returns
returns c = short
