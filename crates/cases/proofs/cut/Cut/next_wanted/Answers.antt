use Rattle.cases.proofs.Forming.{next_told}
use Rattle.cases.proofs.cut.Cut.next_wanted.Goals as goal

pub returns : goal.returns
returns c = next_told c.args.self.now.log c.log.result.now c.args.cut c.args.sector c.args.pieces c.last_over.result c.log.ensures.value c.last_over.ensures.next
