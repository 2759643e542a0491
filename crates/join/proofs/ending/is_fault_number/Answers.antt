use Rattle.join.proofs.Endings.{fault_high, fault_low}
use Rattle.join.proofs.ending.is_fault_number.Goals as goal

pub returns-then-number-ge80 : goal.returns-then-number-ge80
returns-then-number-ge80 c = fault_high c.args.word.now c.in-Some.number c.in-Some.ensures c.if-number-ge80.true

pub returns-else-number-ge80 : goal.returns-else-number-ge80
returns-else-number-ge80 c = fault_low c.args.word.now c.in-Some.number c.in-Some.ensures c.if-number-ge80.false
