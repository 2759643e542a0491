use Rattle.std.proofs.Common.{◌≡◌, ◌≤◌, ◌*◌, take}
use Rattle.std.specs.Prelude.{sum_by}
use Rattle.base.specs.Sizes.{most_sectors}
use Rattle.choices.specs.declared.choice.Departure.{Departure}
use Rattle.images.proofs.changes.sectors_of.Given as goal

abbrev pub invariant-loop-departure : goal.invariant-loop-departure
invariant-loop-departure l =
    (l.sum ≡ sum_by (λ (d : Departure). d.part.count) (take l.departure-index l.departures)) × (l.sum ≤ most_sectors * l.departure-index)
