use Rattle.std.proofs.Common.{◌≡◌, take}
use Rattle.images.proofs.listing.copy_sectors.Given as goal

abbrev pub invariant-loop-sector : goal.invariant-loop-sector
invariant-loop-sector l = l.copy.items ≡ take l.sector-index l.sectors
