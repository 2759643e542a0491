use Rattle.images.proofs.Telling.{keys_tell}
use Rattle.images.proofs.laws.keys_tell.Goals as goal

pub returns : goal.returns
returns c = keys_tell
