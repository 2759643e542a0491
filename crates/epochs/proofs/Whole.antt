-- What holds of a plan, by its value.
use Rattle.std.proofs.Common.{ℕ, ◌≡◌, List, subst}
use Rattle.epochs.specs.declared.table.CutRow.{CutRow}
use Rattle.epochs.specs.Plan.{PlanValue, IsPlan}

-- a plan's invariant, of the value that contracts see
pub whole : (inside plan : PlanValue) (rows : List CutRow) (cuts : List ℕ) → inside ≡ plan → IsPlan inside rows cuts → IsPlan plan rows cuts
whole inside plan rows cuts same is = let P : PlanValue → Type 0 = λ p. IsPlan p rows cuts in subst P same is
