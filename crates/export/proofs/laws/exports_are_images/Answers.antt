use Rattle.export.proofs.Readers.{exports_are_images}
use Rattle.export.proofs.laws.exports_are_images.Goals as goal

pub returns : goal.returns
returns c = exports_are_images
