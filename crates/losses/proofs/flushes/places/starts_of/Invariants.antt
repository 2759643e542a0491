use Rattle.std.proofs.Common.{take}
use Rattle.losses.specs.Places.{AreStarts}
use Rattle.losses.proofs.flushes.places.starts_of.Given as goal

abbrev pub invariant-loop-window : goal.invariant-loop-window
invariant-loop-window l = AreStarts l.fn.entries (take l.window-index l.fn.windows) l.starts.items
