-- The image of a case's representative as a device, and those of its sectors that are formed.
use Rattle.std.specs.Prelude.{ℕ, ◌≡◌, nat_lt, Bool, if◌then◌else◌, List, [], ◌∷◌, length, slice_index_or, slice_get, Some}
use Rattle.std.specs.List.{flat_map, range_with_len}
use Rattle.epochs.specs.declared.part.Part.{Part}
use Rattle.choices.specs.Choices.{nowhere}
use Rattle.images.specs.Views.{sectors_of}
use Rattle.images.specs.Whole.{length_view, whole_view}
use Rattle.cases.specs.Choices.{departures}
use Rattle.cases.specs.Risk.{parts_at_risk}
use Rattle.cases.specs.Cases.{representative}
use Rattle.cases.specs.AtCut.{CutValue, parts_of, case_of, image_of}
use Rattle.cases.specs.Lent.{is_torn_first}
use Rattle.case_runs.specs.declared.image.Formed.{Formed}

-- a cut, whether its parts may be torn, and a case there, as a set for each part at risk
pub record ImageValue : Type 0 where
  pub at : CutValue
  pub tears : Bool
  pub sets : List ℕ

-- the sectors of the image of its representative
abbrev pub sectors_in : ImageValue → List (List ℕ)
sectors_in v = image_of v.at (case_of v.tears (parts_of v.at) v.sets)

-- a sector with its bytes there, if the device has it
abbrev pub formed_if : ImageValue → ℕ → List Formed
formed_if v s = if nat_lt s v.at.log.sectors then record { number = s; bytes = slice_index_or (sectors_in v) s [] } ∷ [] else []

-- those of a part
unfoldable pub formed_over : ImageValue → Part → List Formed
formed_over v part = flat_map (formed_if v) (range_with_len part.sector part.count)

-- those of a part, by its number, if the representative tears it
abbrev pub formed_of : ImageValue → ℕ → List Formed
formed_of v number = if is_torn_first (slice_index_or v.sets number 0) then formed_over v (slice_index_or (parts_of v.at) number nowhere) else []

-- those of the first parts at risk
unfoldable pub formed_in : ImageValue → ℕ → List Formed
formed_in v n = flat_map (formed_of v) (range_with_len 0 n)

-- a set for each part at risk, and the sectors of all torn parts
pub record IsImage (v : ImageValue) (formed : List Formed) : Type 0 where
  pub each : length v.sets ≡ length (parts_of v.at)
  pub all : formed ≡ formed_in v (length (parts_of v.at))

-- each sector of an image has 512 bytes
pub whole_sectors : (v : ImageValue) (n : ℕ) (s : List ℕ) → slice_get (sectors_in v) n ≡ Some s → length s ≡ 512
unfolding sectors_of
whole_sectors v n s there =
    whole_view (record { log = v.at.log; cut = v.at.cut; departures = departures (representative (case_of v.tears (parts_of v.at) v.sets)) (parts_at_risk v.at.way v.at.log.entries v.at.cut) }) n s there

-- there are as many as the device has
pub count_sectors : (v : ImageValue) → length (sectors_in v) ≡ v.at.log.sectors
unfolding sectors_of
count_sectors v =
    length_view (record { log = v.at.log; cut = v.at.cut; departures = departures (representative (case_of v.tears (parts_of v.at) v.sets)) (parts_at_risk v.at.way v.at.log.entries v.at.cut) })
