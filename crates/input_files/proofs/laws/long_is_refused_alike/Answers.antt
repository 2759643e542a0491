use Rattle.input_files.proofs.Standing.{alike}
use Rattle.input_files.proofs.laws.long_is_refused_alike.Goals as goal

pub returns : goal.returns
returns c = alike
