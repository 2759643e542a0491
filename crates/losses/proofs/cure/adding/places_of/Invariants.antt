use Rattle.std.proofs.Common.{◌≡◌, take}
use Rattle.losses.specs.FailureWindows.{places_in}
use Rattle.losses.proofs.cure.adding.places_of.Given as goal

abbrev pub invariant-loop-flush : goal.invariant-loop-flush
invariant-loop-flush l = l.places.items ≡ places_in (take l.flush-index l.flushes)
