use Rattle.std.proofs.Common.{length}
use Rattle.images.proofs.image.+form_sector.Given as goal

abbrev pub decreases-form_sector : goal.decreases-form_sector
decreases-form_sector l = length l.row.now
