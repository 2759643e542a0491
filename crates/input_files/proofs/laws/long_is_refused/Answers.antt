use Rattle.input_files.proofs.Standing.{refused}
use Rattle.input_files.proofs.laws.long_is_refused.Goals as goal

pub returns : goal.returns
returns c = refused
