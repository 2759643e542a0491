-- Cases: sets of choices that a program can't tell apart, and the part that tells those of a set apart first
-- (docs/CRASH-MODEL.md, Any number of losses).
use Rattle.std.specs.Prelude.{ℕ, ◌==◌, nat_lt, Bool, not, ◌&&◌, if◌then◌else◌, List, [], ◌∷◌, length, filter, map, bytes_eq, slice_index_or, Option, None, Some}
use Rattle.std.specs.List.{list_any, list_all, range_with_len}
use Rattle.logfmt.specs.Bounds.{LogValue}
use Rattle.epochs.specs.declared.unit.Unit.{Unit as LogUnit}
use Rattle.epochs.specs.declared.part.Part.{Part}
use Rattle.epochs.specs.declared.part.By.{By}
use Rattle.epochs.specs.Units.{unit_content}
use Rattle.choices.specs.declared.fate.Fate.{Fate}
use Rattle.cases.specs.Choices.{Choice, all_fates}
use Rattle.cases.specs.Risk.{is_at_risk}
use Rattle.cases.specs.Rows.{row, part_with, piece, shows, candidates}

-- a case: what may become of each part
abbrev pub Case : Type 0
Case = Part → List (Option Fate)

-- the case of all choices
abbrev pub whole_case : Bool → Case
whole_case tears p = all_fates tears

-- its representative gives each part the first of what may become of it
abbrev pub representative : Case → Choice
representative c p = slice_index_or (c p) 0 None

-- the same part
abbrev pub is_same : Part → Part → Bool
is_same p q = (p.entry == q.entry) && ((p.place == q.place) && ((p.count == q.count) && (p.sector == q.sector)))

-- the case in which those alone become of part p
abbrev pub with_part : Case → Part → List (Option Fate) → Case
with_part c p fates q = if is_same p q then fates else c q

-- two fates show the same of these pieces of a unit of their part
abbrev pub show_alike : Part → LogUnit → List ℕ → Option Fate → Option Fate → Bool
show_alike p u pieces f g = list_all (λ i. if shows f p u i then shows g p u i else not (shows g p u i)) pieces

-- of some things the first of each kind
abbrev pub firsts : {A : Type 0} → (A → A → Bool) → List A → List A
firsts alike [] = []
firsts alike (x ∷ xs) = x ∷ filter (λ y. not (alike x y)) (firsts alike xs)

-- the kinds, in the order of their firsts
abbrev pub kinds : {A : Type 0} → (A → A → Bool) → List A → List (List A)
kinds alike xs = map (λ x. filter (alike x) xs) (firsts alike xs)

-- piece i of a unit over sector s matters: the sector may hold something else there below the unit
abbrev pub matters : LogValue → ℕ → ℕ → LogUnit → List LogUnit → ℕ → Bool
matters log k s u below i = list_any (λ (c : List ℕ). not (bytes_eq (piece i c) (piece i (unit_content log.entries u)))) (candidates log k s below)

-- a part and what may become of it, by what that shows
pub record Split : Type 0 where
  pub part : Part
  pub groups : List (List (Option Fate))

-- Whether the first unit of a row tells choices of a case apart, by those of the wanted pieces that matter; else the pieces that it
-- doesn't show are wanted of the row below it.
abbrev pub split_or : (List ℕ → Option Split) → Part → LogUnit → List ℕ → List (Option Fate) → Option Split
split_or below p u pieces fates =
    if nat_lt 1 (length (firsts (show_alike p u pieces) fates)) then Some (record { part = p; groups = kinds (show_alike p u pieces) fates })
    else below (filter (λ i. not (shows (slice_index_or fates 0 None) p u i)) pieces)

-- The first part of a row whose fates in a case show something different of the wanted pieces. A unit that isn't at risk ends the row.
abbrev pub split_in_row : LogValue → By → ℕ → ℕ → Case → List LogUnit → List ℕ → Option Split
split_in_row log way k s c [] wanted = None
split_in_row log way k s c (u ∷ below) wanted =
    if is_at_risk log.entries k u.entry
    then split_or (split_in_row log way k s c below) (part_with way log.entries u) u (filter (matters log k s u below) wanted) (c (part_with way log.entries u))
    else None

-- the first that is there
abbrev pub or_else : Option Split → Option Split → Option Split
or_else None other = other
or_else (Some it) other = Some it

-- the same of some sectors, one after the other
abbrev pub first_split : LogValue → By → ℕ → Case → List ℕ → Option Split
first_split log way k c [] = None
first_split log way k c (s ∷ sectors) = or_else (split_in_row log way k s c (row log.entries k s) (range_with_len 0 8)) (first_split log way k c sectors)
