use Rattle.images.specs.Changes.{whole_image, image_of}
use Rattle.images.proofs.Departing.{Towards}
use Rattle.images.proofs.changes.changes_of_image.Given as goal

abbrev pub invariant-loop-departure : goal.invariant-loop-departure
invariant-loop-departure l =
    Towards (whole_image l.view.log l.flush) (image_of l.view) l.view.log.sectors l.view.departures l.departure-index l.sectors.items
