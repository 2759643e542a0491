use Rattle.join.proofs.Choosing.{choice_at}
use Rattle.join.proofs.ending.at_choice.Goals as goal

pub returns : goal.returns
returns c = choice_at c.args.text.now c.in_ok-begun.begun.now c.in_ok-begun.rest.now c.in_ok-ending.ending.now c.in_ok-choice.choice.now c.in_ok-begun.ensures c.in_ok-ending.ensures c.in_ok-choice.ensures
