use Rattle.known_text.proofs.Texts.{parted}
use Rattle.known_text.proofs.words.parts.Goals as goal

pub returns : goal.returns
returns c = parted c.args.at c.args.text.now _ c.split_once.ensures.cases c.requires
