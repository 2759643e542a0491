use Rattle.verifier.proofs.Learned.{takes_nothing}
use Rattle.verifier.proofs.climbing.lead_along.Goals as goal

pub returns-else-arrive_by : goal.returns-else-arrive_by
returns-else-arrive_by c = rw (c.arrive_by.ensures, c.if-arrive_by.false) (takes_nothing c.args.table.now)
