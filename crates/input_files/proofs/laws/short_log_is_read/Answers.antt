use Rattle.input_files.proofs.Logs.{short}
use Rattle.input_files.proofs.laws.short_log_is_read.Goals as goal

pub returns : goal.returns
returns c = short
