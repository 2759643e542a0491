use Rattle.cases.proofs.Numbered.{with_number}
use Rattle.cases.proofs.bits.with.Goals as goal

pub returns : goal.returns
returns c = with_number c.args.bits c.args.number c.requires
