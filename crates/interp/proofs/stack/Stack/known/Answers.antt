use Rattle.interp.proofs.Cells.{known_numbers}
use Rattle.interp.proofs.stack.Stack.known.Goals as goal

pub returns-clause-known : goal.returns-clause-known
returns-clause-known c =
    rw (← c.self.view_is)
    (known_numbers 1 c.self.inside.bytes c.self.inside.marks c.known_bytes.result c.self.invariant.0 c.self.invariant.1 c.known_bytes.ensures.long c.known_bytes.ensures.each)
