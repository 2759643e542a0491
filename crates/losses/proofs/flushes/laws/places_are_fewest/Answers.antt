use Rattle.losses.proofs.Fewest.{places_are_fewest}
use Rattle.losses.proofs.flushes.laws.places_are_fewest.Goals as goal

pub returns : goal.returns
returns c = places_are_fewest
