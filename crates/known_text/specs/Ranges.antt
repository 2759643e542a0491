-- The sectors at which a program looked, as a record has them: ranges, joined by commas.
use Rattle.std.specs.Prelude.{ℕ, ◌≡◌, ◌+◌, ◌-◌, ◌==◌, ◌&&◌, nat_le, nat_lt, eqb, Bool, true, if◌then◌else◌, List, [], ◌∷◌, ◌++◌, codes}
use Rattle.std.specs.Fmt.{decimal}
use Rattle.std.specs.List.{flat_map, list_all, range_with_len, IsDistinct}
use Rattle.known_text.specs.declared.looked.SectorRange.{SectorRange}

-- one sector, or the first and the last of some
unfoldable pub range_text : SectorRange → List ℕ
range_text r = if r.first == r.last then decimal r.first else decimal r.first ++ codes "-" ++ decimal r.last

-- a range that follows another
abbrev pub next_range : SectorRange → List ℕ
next_range r = codes "," ++ range_text r

-- ranges, joined by commas; a hyphen where there is none
unfoldable pub ranges_text : List SectorRange → List ℕ
ranges_text [] = codes "-"
ranges_text (r ∷ rs) = range_text r ++ flat_map next_range rs

-- how many sectors a range has, and these, rising
abbrev pub count_in : SectorRange → ℕ
count_in r = r.last + 1 - r.first

abbrev pub sectors_in : SectorRange → List ℕ
sectors_in r = range_with_len r.first (count_in r)

-- its last sector isn't below its first, and is one of the device
abbrev pub is_range : ℕ → SectorRange → Bool
is_range sectors r = nat_le r.first r.last && nat_lt r.last sectors

-- A text has these sectors of a device, in this order, and none twice.
pub record IsLooked (sectors : ℕ) (text looked : List ℕ) : Type 0 where
  pub ranges : List SectorRange
  pub are : list_all (is_range sectors) ranges ≡ true
  pub is : text ≡ ranges_text ranges
  pub all : looked ≡ flat_map sectors_in ranges
  pub once : IsDistinct eqb looked

pub record NoLooked (sectors : ℕ) (text : List ℕ) : Type 0 where
  pub none : (looked : List ℕ) → IsLooked sectors text looked → ⊥

-- it has these, and no others
pub record IsLookedOnly (sectors : ℕ) (text looked : List ℕ) : Type 0 where
  pub is : IsLooked sectors text looked
  pub only : (others : List ℕ) → IsLooked sectors text others → others ≡ looked
