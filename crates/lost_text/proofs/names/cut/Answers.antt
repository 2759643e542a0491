use Rattle.std.proofs.Common.{arith}
use Rattle.report.proofs.Cutting.{cut_is}
use Rattle.lost_text.proofs.AnyNames.{cut_shorter}
use Rattle.lost_text.proofs.names.cut.Goals as goal

pub returns-clause-value : goal.returns-clause-value
returns-clause-value c = cut_is 44 c.args.text.now _ c.split_once.ensures.cases (omega arith)

pub returns-clause-shorter : goal.returns-clause-shorter
returns-clause-shorter c = cut_shorter c.args.text.now _ c.split_once.ensures.cases
