use Rattle.join.proofs.Bodies.{words_read}
use Rattle.join.proofs.line.words_said.Goals as goal

pub returns : goal.returns
returns c = words_read _ _ _ _ _ _ _ _ _ _ c.field.ensures.field c.field-2.ensures.field c.field-3.ensures.field c.number.ensures c.number-2.ensures c.number-3.ensures
