use Rattle.choices.proofs.Naming.{first_pick}
use Rattle.choices.proofs.named.pick_named.Goals as goal

pub returns-clause-found : goal.returns-clause-found
returns-clause-found c = first_pick _ _ _ _ _ _ c.number_of-fate.ensures.back c.if-fate-fates.false c.in_ok-part.ensures.found
