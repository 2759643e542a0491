use Rattle.report.proofs.Cutting.{cut_is}
use Rattle.report.proofs.choice_text.reading.cut.Goals as goal

pub returns : goal.returns
returns c = cut_is c.args.mark c.args.text.now _ c.split_once.ensures.cases c.requires
