use Rattle.join.proofs.Endings.{fails}
use Rattle.join.proofs.HeadsRead.{not_printed}
use Rattle.join.proofs.heading.read_head.Goals as goal

pub returns-then-not-branch : goal.returns-then-not-branch
returns-then-not-branch c = not_printed c.args.text.now c.args.head.now _ c.requires c.in_ok-said.ensures.read (fails c.in_ok-is_printed.field-0 c.if-not-branch.true c.in_ok-is_printed.ensures)
