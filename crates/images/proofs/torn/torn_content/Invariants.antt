use Rattle.std.proofs.Common.{ℕ, ◌≡◌, ◌≢◌, ◌<◌, slice_get, Some}
use Rattle.images.specs.declared.torn.TornSector.{TornSector}
use Rattle.images.proofs.torn.torn_content.Given as goal

abbrev pub invariant-loop-sector : goal.invariant-loop-sector
invariant-loop-sector l = (j : ℕ) (t : TornSector) → j < l.sector-index → slice_get l.torn j ≡ Some t → t.number ≢ l.number
