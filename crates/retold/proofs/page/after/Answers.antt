use Rattle.join.proofs.Texts.{fronted}
use Rattle.retold.proofs.page.after.Goals as goal

pub returns : goal.returns
returns c = fronted c.args.front.now c.args.text.now _ c.strip_prefix.ensures.cases
