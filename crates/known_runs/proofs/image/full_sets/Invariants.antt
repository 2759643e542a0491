use Rattle.std.proofs.Common.{◌≡◌, length}
use Rattle.known_runs.specs.Imaged.{AreFull}
use Rattle.known_runs.proofs.image.full_sets.Given as goal

abbrev pub invariant-loop-number : goal.invariant-loop-number
invariant-loop-number l = (length l.full.items ≡ l.number) × AreFull l.tears l.sets l.full.items
