use Rattle.std.proofs.Common.{List, length}
use Rattle.losses.specs.declared.flushes.window.Window.{Window}
use Rattle.losses.specs.Places.{AreWindows, AreStarts}
use Rattle.losses.proofs.Walked.{Walked}
use Rattle.losses.proofs.flushes.places.places_by.Given as goal

abbrev pub invariant-loop-end : goal.invariant-loop-end
invariant-loop-end l =
    (ws : List Window) → AreWindows (length l.fn.starts) ws → AreStarts (length l.fn.starts) ws l.fn.starts → Walked ws l.end l.last l.places.items
