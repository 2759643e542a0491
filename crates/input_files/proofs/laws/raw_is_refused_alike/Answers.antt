use Rattle.input_files.proofs.RawLogs.{refused_alike}
use Rattle.input_files.proofs.laws.raw_is_refused_alike.Goals as goal

pub returns : goal.returns
returns c = refused_alike
