use Rattle.std.proofs.Common.{◌≡◌, ◌++◌, take}
use Rattle.epochs.specs.Flushes.{places_of}
use Rattle.losses.specs.FailureWindows.{places_in}
use Rattle.retold.proofs.places.entries_of.Given as goal

abbrev pub invariant-loop-flush : goal.invariant-loop-flush
invariant-loop-flush l = l.entries.items ≡ places_of l.cuts.flushes ++ places_in (take l.flush-index l.missing)
