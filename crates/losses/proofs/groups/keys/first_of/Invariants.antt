use Rattle.std.proofs.Common.{ℕ, ◌≡◌, ◌<◌, slice_get, Some}
use Rattle.losses.specs.Keys.{Lacks}
use Rattle.losses.proofs.groups.keys.first_of.Given as goal

abbrev pub invariant-loop-key : goal.invariant-loop-key
invariant-loop-key l = (i other : ℕ) → i < l.key-index → slice_get l.fn.sought i ≡ Some other → Lacks l.fn.keys other
