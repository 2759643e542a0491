-- What stands at a cut (docs/OUTPUT.md, The text of `show`).
use Rattle.std.specs.Prelude.{ℕ, ◌+◌, ◌-◌, ◌*◌, ◌==◌, Bool, false, if◌then◌else◌, List, ◌++◌, codes, length, take, filter, slice_get, Option, None}
use Rattle.std.specs.List.{flat_map, range_with_len, last_or}
use Rattle.std.specs.Option.{option_map_or}
use Rattle.std.specs.Fmt.{decimal}
use Rattle.logfmt.specs.declared.entry.Entry.{Entry}
use Rattle.epochs.specs.declared.part.Part.{Part}
use Rattle.epochs.specs.Parts.{volatile_parts}
use Rattle.epochs.specs.Plan.{PlanValue}
use Rattle.choices.specs.declared.fate.Fate.{Fate}
use Rattle.choices.specs.declared.fate.Fate.TheVariants as fate
use Rattle.choices.specs.declared.choice.Departure.{Departure}
use Rattle.crash_text.specs.LogTable.{line_at}
use Rattle.crash_text.specs.declared.cut.ToldKind.{ToldKind}
use Rattle.crash_text.specs.declared.cut.ToldKind.TheVariants as told

-- a part: its entry, and the sectors of the device that it covers
unfoldable pub place_text : Part → List ℕ
place_text p =
    codes "entry " ++ decimal p.entry ++ (if p.count == 1 then codes ", sector " ++ decimal p.sector else codes ", " ++ decimal p.count ++ codes " sectors from " ++ decimal p.sector ++ codes " on")

-- what of a part of that many sectors arrived
abbrev pub arrived_text : ℕ → Fate → List ℕ
arrived_text count fate.Drop = codes "nothing of it arrived"
arrived_text count (fate.Head eighths) = codes "only its first " ++ decimal (64 * (eighths * count)) ++ codes " bytes arrived"
arrived_text count (fate.Tail eighths) = codes "only its last " ++ decimal (64 * (eighths * count)) ++ codes " bytes arrived"

unfoldable pub departed_line : Departure → List ℕ
departed_line d = codes "departed: " ++ place_text d.part ++ codes ": " ++ arrived_text d.part.count d.fate ++ codes "\n"

unfoldable pub volatile_line : Part → List ℕ
volatile_line p = codes "volatile: " ++ place_text p ++ codes "\n"

-- the first 32 of the parts that are volatile at a cut
unfoldable pub parts_text : PlanValue → ℕ → List ℕ
parts_text plan cut = flat_map volatile_line (take 32 (volatile_parts plan.by plan.log.entries cut))

-- how many there are, and these
unfoldable pub volatile_text : PlanValue → ℕ → List ℕ
volatile_text plan cut = codes "volatile parts: " ++ decimal (length (volatile_parts plan.by plan.log.entries cut)) ++ codes "\n" ++ parts_text plan cut

-- what an entry of a kind is called
abbrev pub told_word : ToldKind → List ℕ
told_word told.Flush = codes "flush"
told_word told.Mark = codes "mark"

-- entry e is of a kind
abbrev pub is_told_at : ToldKind → List Entry → ℕ → Bool
is_told_at told.Flush es e = option_map_or (λ (entry : Entry). entry.flags.flush) (slice_get es e) false
is_told_at told.Mark es e = option_map_or (λ (entry : Entry). entry.flags.mark) (slice_get es e) false

-- the last entry before a cut that is so
abbrev pub last_before : (ℕ → Bool) → ℕ → Option ℕ
last_before is_so cut = last_or None (filter is_so (range_with_len 0 cut))

-- the line of the last entry of a kind before a cut, if there is one
unfoldable pub last_text : ToldKind → List Entry → ℕ → List ℕ
last_text kind es cut = codes "last " ++ told_word kind ++ codes ": " ++ option_map_or (line_at es) (last_before (is_told_at kind es) cut) (codes "none\n")

-- the last entries before a cut, at most four
abbrev pub before_line : List Entry → ℕ → List ℕ
before_line es e = codes "before the cut: " ++ line_at es e

unfoldable pub before_text : List Entry → ℕ → List ℕ
before_text es cut = flat_map (before_line es) (range_with_len (cut - 4) (cut - (cut - 4)))
