use Rattle.std.proofs.Common.{map}
use Rattle.losses.proofs.Progress.{Grouped}
use Rattle.losses.proofs.groups.grouping.groups.Given as goal

abbrev pub invariant-loop-place : goal.invariant-loop-place
invariant-loop-place l = Grouped (map (λ c. c.items) l.fn.failing) l.place l.keys.items l.places.items
