-- What the representative of a case leaves of the units of a sector, and where a sector of its image is of more than one unit.
use Rattle.std.specs.Prelude.{ℕ, ◌≡◌, ◌+◌, ◌<◌, ◌≤◌, Bool, true, false, List, slice_get, slice_index_or, Option, None, Some}
use Rattle.epochs.specs.declared.part.Part.{Part}
use Rattle.epochs.specs.declared.unit.Unit.{Unit as LogUnit}
use Rattle.choices.specs.declared.fate.Fate.{Fate}
use Rattle.choices.specs.declared.fate.Fate.TheVariants as fate
use Rattle.cases.specs.declared.lend.UnitReach.{UnitReach}
use Rattle.cases.specs.declared.lend.UnitReach.TheVariants as reach
use Rattle.cases.specs.Trees.{is_torn}
use Rattle.cases.specs.Sets.{fates_in}
use Rattle.cases.specs.AtCut.{CutValue, parts_of, case_of}
use Rattle.cases.specs.Table.{leaves_piece}

-- what reaches the device of a part with that fate
abbrev pub reach_with : Option Fate → UnitReach
reach_with None = reach.Whole
reach_with (Some fate.Drop) = reach.Gone
reach_with (Some (fate.Head t)) = reach.Torn
reach_with (Some (fate.Tail t)) = reach.Torn

-- the first fate of a set is a torn one
abbrev pub is_torn_first : ℕ → Bool
is_torn_first bits = is_torn (slice_index_or (fates_in bits) 0 None)

-- A part at risk, by its number, covers a sector, and the representative tears it.
pub record IsTornOver (at : CutValue) (sets : List ℕ) (s number : ℕ) : Type 0 where
  pub part : Part
  pub there : slice_get (parts_of at) number ≡ Some part
  pub from : part.sector ≤ s
  pub to : s < part.sector + part.count
  pub torn : is_torn_first (slice_index_or sets number 0) ≡ true

-- the representative leaves each piece of a unit, or none, or its part is torn
abbrev pub LeavesEach : CutValue → List ℕ → LogUnit → Bool → Type 0
LeavesEach at sets u is = (tears : Bool) (i : ℕ) → i < 8 → leaves_piece at (case_of tears (parts_of at) sets) u i ≡ is

abbrev pub ReachesSo : CutValue → List ℕ → LogUnit → UnitReach → Type 0
ReachesSo at sets u reach.Whole = LeavesEach at sets u true
ReachesSo at sets u reach.Gone = LeavesEach at sets u false
ReachesSo at sets u reach.Torn = (number : ℕ) × IsTornOver at sets u.sector number
