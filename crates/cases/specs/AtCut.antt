-- A cut with the parts at risk there: a case as a set for each of them, and the part that splits it, by its number.
use Rattle.std.specs.Prelude.{ℕ, ◌≡◌, ◌<◌, Bool, false, if◌then◌else◌, List, [], ◌∷◌, length, map, slice_index_or, Option, None, Some, MatchOption}
use Rattle.logfmt.specs.Bounds.{LogValue}
use Rattle.epochs.specs.declared.part.Part.{Part}
use Rattle.epochs.specs.declared.part.By.{By}
use Rattle.choices.specs.Choices.{nowhere}
use Rattle.cases.specs.declared.split.Parted.{Parted}
use Rattle.cases.specs.Risk.{parts_at_risk}
use Rattle.cases.specs.Choices.{image_at}
use Rattle.cases.specs.Cases.{Case, whole_case, representative, is_same, Split, first_split}
use Rattle.cases.specs.Trees.{Program}
use Rattle.cases.specs.Laws.{IsAmong}
use Rattle.cases.specs.Sets.{fates_in}

-- a cut of a log, and what departs as one
pub record CutValue : Type 0 where
  pub log : LogValue
  pub way : By
  pub cut : ℕ

-- the parts at risk there
abbrev pub parts_of : CutValue → List Part
parts_of at = parts_at_risk at.way at.log.entries at.cut

-- no part stands twice
abbrev pub Apart : List Part → Type 0
Apart [] = Unit {0}
Apart (p ∷ ps) = ((q : Part) → IsAmong ps q → is_same p q ≡ false) × Apart ps

-- the case in which each of some parts has the fates of its set, and any other part all of them
abbrev pub case_of : Bool → List Part → List ℕ → Case
case_of tears [] sets p = whole_case tears p
case_of tears (q ∷ parts) [] p = whole_case tears p
case_of tears (q ∷ parts) (bits ∷ sets) p = if is_same q p then fates_in bits else case_of tears parts sets p

-- the image of its representative
abbrev pub image_of : CutValue → Case → List (List ℕ)
image_of at c = image_at at.log at.way at.cut (representative c)

-- a part by its number among the parts at risk, and the groups of its fates
abbrev pub split_by : List Part → Parted → Split
split_by parts it = record { part = slice_index_or parts it.part nowhere; groups = map fates_in it.groups.items }

-- the part that splits a case, with that program
abbrev pub split_at : CutValue → Program → Case → Option Split
split_at at program c = first_split at.log at.way at.cut c (program.footprint (image_of at c))

-- what was found is a split of a case: of a part at risk, in the groups of its fates
abbrev pub IsFound : List Part → Option Parted → Option Split → Type 0
IsFound parts found split = MatchOption found (split ≡ None) (λ it. (it.part < length parts) × (split ≡ Some (split_by parts it)))
