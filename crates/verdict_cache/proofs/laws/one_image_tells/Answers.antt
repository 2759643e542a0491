use Rattle.verdict_cache.proofs.Telling.{one_image_tells}
use Rattle.verdict_cache.proofs.laws.one_image_tells.Goals as goal

pub returns : goal.returns
returns c = one_image_tells c.keys_tell.ensures
