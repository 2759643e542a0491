use Rattle.machine.proofs.Order.{in_order}
use Rattle.machine.proofs.laws.checks_in_order.Goals as goal

pub returns : goal.returns
returns c = in_order
