use Rattle.std.proofs.Common.{rules}
use Rattle.input_files.specs.RawLogs.{read_raw}
use Rattle.input_files.proofs.Counting.{held_as}
use Rattle.input_files.proofs.reading.read_raw_piece.Goals as goal

pub returns-clause-held : goal.returns-clause-held
returns-clause-held g c = held_as (read_raw c.args.limits) _ _ _ c.in_ok-bytes.ensures (search rules)
