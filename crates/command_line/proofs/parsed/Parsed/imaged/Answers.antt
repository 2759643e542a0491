use Rattle.command_line.proofs.Asking.{of_any}
use Rattle.command_line.proofs.parsed.Parsed.imaged.Goals as goal

pub returns-in-Some : goal.returns-in-Some
returns-in-Some c = of_any c.args.self.now c.args.in_words c.in-Some.cut c.options_by.result c.in-Some.is c.if-self.true c.options_by.ensures
