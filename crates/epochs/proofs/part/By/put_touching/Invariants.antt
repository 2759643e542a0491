use Rattle.std.proofs.Common.{ℕ, ◌≡◌, ◌++◌}
use Rattle.epochs.specs.Touching.{touching_parts}
use Rattle.epochs.proofs.part.By.put_touching.Given as goal

abbrev pub invariant-loop-place : goal.invariant-loop-place
invariant-loop-place l = (e : ℕ) → l.numbers.items ≡ l.initial.numbers.items ++ touching_parts l.fn.self e l.entry l.sectors l.first l.place
