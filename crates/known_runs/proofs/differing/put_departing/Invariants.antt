use Rattle.std.proofs.Common.{◌≡◌, ◌<◌, ℕ, Bool, Some, slice_get}
use Rattle.choices.specs.declared.choice.Departure.{Departure}
use Rattle.export.specs.Kept.{Spans, listed, Lists}
use Rattle.known_runs.proofs.differing.put_departing.Given as goal

abbrev pub invariant-loop-departure : goal.invariant-loop-departure
invariant-loop-departure l =
    (p : ℕ → Bool) → l.initial.numbers.items ≡ listed l.one l.other p
    → Lists l.one l.other l.numbers.items p (λ n. (j : ℕ) × (d : Departure) × (j < l.departure-index) × (slice_get l.departures j ≡ Some d) × Spans d.part.sector d.part.count n)
