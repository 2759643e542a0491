use Rattle.request.specs.declared.settings.Retelling.TheVariants as retelling
use Rattle.command_line.specs.Parsed.{explained}
use Rattle.command_line.proofs.Asking.{of_report, of_programs}
use Rattle.command_line.proofs.parsed.Parsed.why.Goals as goal

pub returns-in-Some : goal.returns-in-Some
returns-in-Some c = of_report c.args.self.now retelling.Causes (explained c.args.self.now) _ c.options.result c.in-Some.is c.options.ensures

pub returns-in-None : goal.returns-in-None
returns-in-None c =
    of_programs c.args.self.now retelling.Causes (explained c.args.self.now) c.options_by.result c.explained.result c.in-None.is c.options_by.ensures c.explained.ensures
