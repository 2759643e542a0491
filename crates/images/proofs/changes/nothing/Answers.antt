use Rattle.images.proofs.Growing.{first_known}
use Rattle.images.proofs.changes.nothing.Goals as goal

pub returns : goal.returns
returns c = first_known _ _ c.new.ensures.items
