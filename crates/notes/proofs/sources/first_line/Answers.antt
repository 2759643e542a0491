use Rattle.notes.proofs.LinesOfC.{line_is}
use Rattle.notes.proofs.sources.first_line.Goals as goal

pub returns : goal.returns
returns c = line_is c.args.text.now c.split_once.result c.split_once.ensures.cases
