use Rattle.command_line.proofs.Asking.{of_records, of_images}
use Rattle.command_line.proofs.parsed.Parsed.exported.Goals as goal

pub returns-in-Some : goal.returns-in-Some
returns-in-Some c = rw c.recorded.ensures (of_records c.args.self.now _ c.options_by.result c.in-Some.is c.options_by.ensures)

pub returns-in-None : goal.returns-in-None
returns-in-None c = of_images c.args.self.now c.options.result c.in-None.is c.options.ensures
