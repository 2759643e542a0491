use Rattle.std.proofs.Common.{rules}
use Rattle.std.specs.Prelude.{take}
use Rattle.input_files.proofs.Counting.{held_as}
use Rattle.input_files.proofs.reading.read_whole.Goals as goal

pub returns-clause-held : goal.returns-clause-held
returns-clause-held g c = held_as (take c.args.most) _ _ _ c.in_ok-bytes.ensures.bytes (search rules)
