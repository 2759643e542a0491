use Rattle.losses.specs.Printed.{IsAfter}
use Rattle.losses.proofs.cure.printed.after_lines.Given as goal

abbrev pub invariant-loop-line : goal.invariant-loop-line
invariant-loop-line l = IsAfter l.fn.text l._line l.rest
