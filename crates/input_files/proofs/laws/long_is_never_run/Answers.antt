use Rattle.input_files.proofs.Contents.{never_run}
use Rattle.input_files.proofs.laws.long_is_never_run.Goals as goal

pub returns : goal.returns
returns c = never_run
