-- What in an image differs from another one (docs/OUTPUT.md, The text of `show`).
use Rattle.std.specs.Prelude.{ℕ, ◌+◌, ◌-◌, ◌*◌, ◌/◌, ◌==◌, Bool, not, nat_lt, if◌then◌else◌, List, [], ◌++◌, codes, length, filter, slice_get, slice_index, Option, Some, None}
use Rattle.std.specs.List.{flat_map, range_with_len}
use Rattle.std.specs.Option.{option_map_or}
use Rattle.std.specs.Fmt.{decimal}
use Rattle.crash_text.specs.Rows.{row_text}

-- byte i of two sectors differs
abbrev pub differs : List ℕ → List ℕ → ℕ → Bool
differs left right i = not (slice_index left i == slice_index right i)

-- the bytes that differ, of that many from one on
unfoldable pub differences : List ℕ → List ℕ → ℕ → ℕ → List ℕ
differences left right start count = filter (differs left right) (range_with_len start count)

-- row r of both sectors, where it differs, as `diff` shows lines
unfoldable pub row_difference : ℕ → List ℕ → List ℕ → ℕ → List ℕ
row_difference n left right r =
    if nat_lt 0 (length (differences left right (16 * r) 16)) then codes "< " ++ row_text n left r ++ codes "> " ++ row_text n right r else []

-- how many rows are looked at, from the first that differs on: four, or those that are left of the sector's 32
abbrev pub rows_from : ℕ → ℕ
rows_from row = if nat_lt row 28 then 4 else 32 - row

-- sector n, of which byte `first` is the first that differs
unfoldable pub difference_head : ℕ → List ℕ → List ℕ → ℕ → List ℕ
difference_head n left right first =
    codes "sector " ++ decimal n ++ codes ": " ++ decimal (length (differences left right 0 512)) ++ codes " of 512 bytes differ, the first is byte " ++ decimal first ++ codes "\n"

unfoldable pub difference_rows : ℕ → List ℕ → List ℕ → ℕ → List ℕ
difference_rows n left right first = flat_map (row_difference n left right) (range_with_len (first / 16) (rows_from (first / 16)))

abbrev pub difference_at : ℕ → List ℕ → List ℕ → ℕ → List ℕ
difference_at n left right first = difference_head n left right first ++ difference_rows n left right first

-- sector n, where it differs
unfoldable pub sector_difference : ℕ → List ℕ → List ℕ → List ℕ
sector_difference n left right = option_map_or (difference_at n left right) (slice_get (differences left right 0 512) 0) []

abbrev pub both_there : ℕ → Option (List ℕ) → Option (List ℕ) → List ℕ
both_there n None right = []
both_there n (Some left) None = []
both_there n (Some left) (Some right) = sector_difference n left right

-- each sector in which two devices differ, the first one's rows after `<`
abbrev pub sector_at : List (List ℕ) → List (List ℕ) → ℕ → List ℕ
sector_at lefts rights n = both_there n (slice_get lefts n) (slice_get rights n)

unfoldable pub difference_text : List (List ℕ) → List (List ℕ) → List ℕ
difference_text lefts rights = flat_map (sector_at lefts rights) (range_with_len 0 (length rights))
