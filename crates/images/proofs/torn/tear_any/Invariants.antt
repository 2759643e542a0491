use Rattle.std.proofs.Common.{ℕ, ◌≡◌, ◌<◌, slice_get, Some, false}
use Rattle.choices.specs.declared.choice.Departure.{Departure}
use Rattle.images.specs.Table.{leaves}
use Rattle.images.proofs.torn.tear_any.Given as goal

abbrev pub invariant-loop-departure : goal.invariant-loop-departure
invariant-loop-departure l = (i : ℕ) (d : Departure) → i < l.departure-index → slice_get l.departures i ≡ Some d → leaves (Some d.fate) ≡ false
