use Rattle.join.proofs.Endings.{answer_said}
use Rattle.join.proofs.ending.is_answer.Goals as goal

pub returns : goal.returns
returns c = answer_said c.args.word.now c.in-Some.number c.in-Some.ensures
