use Rattle.input_files.proofs.RawLogs.{no_more}
use Rattle.input_files.proofs.laws.no_more_is_read.Goals as goal

pub returns : goal.returns
returns c = no_more
