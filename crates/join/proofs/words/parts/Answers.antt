use Rattle.join.proofs.Texts.{parted}
use Rattle.join.proofs.words.parts.Goals as goal

pub returns : goal.returns
returns c = parted c.args.at c.args.text.now _ c.split_once.ensures.cases c.requires
