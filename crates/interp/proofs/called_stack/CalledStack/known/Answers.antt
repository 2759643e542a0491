use Rattle.interp.proofs.Cells.{known_numbers}
use Rattle.interp.proofs.called_stack.CalledStack.known.Goals as goal

pub returns-clause-known : goal.returns-clause-known
returns-clause-known c =
    rw (← c.self.view_is)
    (known_numbers c.self.inside.mark c.self.inside.bytes c.self.inside.marks c.known_bytes.result c.self.invariant.0 c.self.invariant.1 c.known_bytes.ensures.long c.known_bytes.ensures.each)
