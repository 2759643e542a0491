-- How a run is laid out in parts (docs/COMMANDS.md, Commands).
use Rattle.std.specs.Prelude.{ℕ, ◌≡◌, ◌<◌, ◌≤◌, ◌+◌, ◌-◌, ◌*◌, ◌/◌, ◌%◌, Bool, true, ◌&&◌, nat_le, min, max, List, ◌++◌, codes}
use Rattle.std.specs.Fmt.{decimal}
use Rattle.std.specs.List.{flat_map, range_with_len}
use Rattle.choices.specs.Choices.{limit}
use Rattle.request.specs.declared.extent.Extent.TheVariants as extent
use Rattle.request.specs.Extents.{is_extent, has_extent}

-- in how many parts a run is laid out at most
abbrev pub most_parts : ℕ
most_parts = 1048576

-- how many parts there are where that many are wanted: no more than images, and at least one
abbrev pub part_count : ℕ → ℕ → ℕ
part_count images parts = max (min parts images) 1

-- no part has more images than a run may have
abbrev pub is_layout : ℕ → ℕ → Bool
is_layout images parts = nat_le 1 parts && nat_le parts most_parts && nat_le images (part_count images parts * limit)

-- the first image of a part: the lengths of two parts differ by at most one, and the longer ones come first
abbrev pub part_start : ℕ → ℕ → ℕ → ℕ
part_start images count part = part * (images / count) + min part (images % count)

unfoldable pub part_line : ℕ → ℕ → ℕ → List ℕ
part_line images count part = codes "part " ++ decimal (part_start images count part) ++ codes ".." ++ decimal (part_start images count (part + 1)) ++ codes "\n"

-- a line for each part
unfoldable pub layout_text : ℕ → ℕ → List ℕ
layout_text images parts = flat_map (part_line images (part_count images parts)) (range_with_len 0 (part_count images parts))

-- how many images a part has
abbrev pub part_length : ℕ → ℕ → ℕ → ℕ
part_length images count part = part_start images count (part + 1) - part_start images count part

-- the parts have each image once, in their order. Their lengths differ by at most one, and the longer ones come first. Each can be asked for.
pub record AreEven (images count : ℕ) : Type 0 where
  pub begins : part_start images count 0 ≡ 0
  pub ends : part_start images count count ≡ images
  pub rising : (part : ℕ) → part_start images count part ≤ part_start images count (part + 1)
  pub longest : (i j : ℕ) → i ≤ j → part_length images count j ≤ part_length images count i
  pub near : (i j : ℕ) → part_length images count i ≤ part_length images count j + 1
  pub asked : (part : ℕ) → part < count → is_extent (extent.Part (part_start images count part) (part_start images count (part + 1))) ≡ true
  pub within : (part : ℕ) → part < count → has_extent (extent.Part (part_start images count part) (part_start images count (part + 1))) images ≡ true

abbrev pub PartsAreEven : Type 0
PartsAreEven = (images parts : ℕ) → is_layout images parts ≡ true → AreEven images (part_count images parts)
