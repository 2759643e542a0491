use Rattle.std.proofs.Common.{refl}
use Rattle.command_line.proofs.parsed.Parsed.explore.Goals as goal

pub returns-then-self : goal.returns-then-self
returns-then-self c = rw c.if-self.true (c.options.result, c.options.ensures, refl)

pub returns-else-self : goal.returns-else-self
returns-else-self c = rw c.if-self.false (c.options_by.result, c.options_by.ensures, c.explored.ensures)
