use Rattle.std.proofs.Common.{rules}
use Rattle.input_files.proofs.Counting.{text_held}
use Rattle.input_files.proofs.reading.read_text.Goals as goal

pub returns : goal.returns
returns g c = text_held _ _ _ c.len-length.result c.most_read.result (search rules) c.in_ok-bytes.ensures.bytes (search rules) c.short_text.ensures
