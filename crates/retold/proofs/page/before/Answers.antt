use Rattle.join.proofs.Texts.{backed}
use Rattle.retold.proofs.page.before.Goals as goal

pub returns : goal.returns
returns c = backed c.args.end.now c.args.text.now _ c.strip_suffix.ensures.cases
