use Rattle.std.proofs.Common.{sym, ◌∙◌}
use Rattle.interp.proofs.Cells.{length_cells}
use Rattle.interp.proofs.stack.Stack.copy_of.Goals as goal

pub returns-clause-long : goal.returns-clause-long
returns-clause-long c = length_cells 1 c.self.inside.bytes c.self.inside.marks (c.self.invariant.0 ∙ sym c.self.invariant.1) ∙ c.self.invariant.0
