use Rattle.std.proofs.Common.{rules}
use Rattle.input_files.specs.PartTexts.{part_read}
use Rattle.input_files.proofs.Counting.{held_as}
use Rattle.input_files.proofs.reading.read_part_piece.Goals as goal

pub returns-clause-held : goal.returns-clause-held
returns-clause-held g c = held_as (part_read c.args.most) _ _ _ c.in_ok-bytes.ensures (search rules)
