-- Which parts cover which sectors of the device.
use Rattle.std.specs.Prelude.{ℕ, ◌+◌, Bool, false, nat_le, nat_lt, ◌&&◌, List, length, map, filter, drop, slice_get}
use Rattle.std.specs.List.{list_any, range_with_len}
use Rattle.std.specs.Option.{option_map_or}
use Rattle.logfmt.specs.declared.entry.Entry.{Entry}
use Rattle.epochs.specs.declared.part.Part.{Part}
use Rattle.epochs.specs.declared.part.By.{By}
use Rattle.epochs.specs.Parts.{part_of, volatile_parts}
use Rattle.epochs.specs.Table.{unforced_parts}

-- a part covers a sector of the device
abbrev pub covers : Part → ℕ → Bool
covers p n = nat_le p.sector n && nat_lt n (p.sector + p.count)

-- it covers one of some sectors
abbrev pub touches : List ℕ → Part → Bool
touches sectors p = list_any (covers p) sectors

-- the places in a list at which a test holds, rising
abbrev pub places_where : {A : Type 0} → (A → Bool) → List A → List ℕ
places_where p xs = filter (λ n. option_map_or p (slice_get xs n) false) (range_with_len 0 (length xs))

-- the volatile parts of cut k that cover one of some sectors, by their numbers, rising
unfoldable pub touching : By → List Entry → ℕ → List ℕ → List ℕ
touching way es k sectors = places_where (touches sectors) (volatile_parts way es k)

-- of the first `count` parts of entry e those that cover one of some sectors, by their numbers, of which the first part has `first`
unfoldable pub touching_parts : By → ℕ → Entry → List ℕ → ℕ → ℕ → List ℕ
touching_parts way e entry sectors first count = map (λ j. first + j) (filter (λ j. touches sectors (part_of way e entry j)) (range_with_len 0 count))

-- of the parts that are not forced those from number `durable` on and before entry e, by their numbers from there on
unfoldable pub touching_before : By → List Entry → List ℕ → ℕ → ℕ → List ℕ
touching_before way es sectors durable e = places_where (touches sectors) (drop durable (unforced_parts way es e))
