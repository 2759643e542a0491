use Rattle.std.proofs.Common.{length}
use Rattle.images.proofs.image.+fate_at.Given as goal

abbrev pub decreases-fate_at : goal.decreases-fate_at
decreases-fate_at l = length l.departures.now
