use Rattle.join.proofs.Texts.{front_is}
use Rattle.join.proofs.words.before.Goals as goal

pub returns : goal.returns
returns c = λ front e. rw c.as_bytes.ensures.value (front_is c.args.text.now c.args.rest.now front e)
