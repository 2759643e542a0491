-- The flushes that are added to a log (docs/CRASH-MODEL.md, Added flushes).
use Rattle.std.specs.Prelude.{ℕ, List, take}
use Rattle.epochs.specs.declared.flushes.Flushes.{Flushes}

-- the entries before which a flush is added, in the order in which they were given
abbrev pub places_of : Flushes → List ℕ
places_of flushes = take flushes.count flushes.entries
