use Rattle.input_files.proofs.RawLogs.{read_short}
use Rattle.input_files.proofs.laws.read_raw_is_short.Goals as goal

pub returns : goal.returns
returns c = read_short
