use Rattle.command_line.proofs.BaseSizes.{alike}
use Rattle.command_line.proofs.sized.sized_is_numbered.Goals as goal

pub returns : goal.returns
returns c = alike
