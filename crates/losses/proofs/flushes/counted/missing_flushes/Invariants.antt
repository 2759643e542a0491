use Rattle.std.proofs.Common.{◌≡◌, take}
use Rattle.losses.specs.Counted.{missing}
use Rattle.losses.proofs.flushes.counted.missing_flushes.Given as goal

abbrev pub invariant-loop-window : goal.invariant-loop-window
invariant-loop-window l = l.flushes.items ≡ missing (take l.window-index l.fn.windows) l.places.items
