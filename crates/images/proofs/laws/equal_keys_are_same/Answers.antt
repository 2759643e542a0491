use Rattle.images.specs.Equal.{key_decides}
use Rattle.images.proofs.laws.equal_keys_are_same.Goals as goal

pub returns : goal.returns
returns c = key_decides
