use Rattle.std.proofs.Common.{rules}
use Rattle.input_files.proofs.Counting.{all_given, program_held}
use Rattle.input_files.proofs.reading.read_program.Goals as goal

pub returns-clause-held : goal.returns-clause-held
returns-clause-held g c =
    let read = c.in_ok-read_on.ensures in
    let given = read.read _ (all_given _ _ c.new-bytes.ensures.items) in
    let told = c.in_ok-length.ensures in
    program_held _ _ _ c.truncate.new.self.items _ c.args.said _ c.most_read.result c.len.result (search rules) (search rules) given read.room read.there read.end told.whole told.told (search rules)
