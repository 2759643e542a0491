use Rattle.input_files.proofs.Sized.{alike}
use Rattle.input_files.proofs.laws.base_is_read_alike.Goals as goal

pub returns : goal.returns
returns c = alike
