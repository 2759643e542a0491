use Rattle.report.proofs.Parted.{some_cut, none_cut}
use Rattle.report.proofs.printed.cut.Goals as goal

pub returns-in-Some-clause-parts : goal.returns-in-Some-clause-parts
returns-in-Some-clause-parts c = some_cut c.args.at c.args.text.now c.in-Some.parts c.in-Some.ensures.cases c.requires

pub returns-in-None-clause-parts : goal.returns-in-None-clause-parts
returns-in-None-clause-parts c = none_cut c.args.at c.args.text.now c.in-None.ensures.cases c.requires
