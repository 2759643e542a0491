use Rattle.std.proofs.Common.{map}
use Rattle.std.specs.Ordering.{nat_cmp}
use Rattle.std.specs.BTreeMap as tree
use Rattle.losses.proofs.Folds.{Folding}
use Rattle.losses.proofs.groups.folding.fold.Given as goal

abbrev pub invariant-loop-place : goal.invariant-loop-place
invariant-loop-place l = Folding (map (λ c. c.items) l.fn.failing) l.place (tree.get nat_cmp l.examples) l.places.items
