use Rattle.input_files.proofs.Logs.{long}
use Rattle.input_files.proofs.laws.long_log_is_refused_alike.Goals as goal

pub returns : goal.returns
returns c = long
