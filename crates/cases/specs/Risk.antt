-- Which parts a crash may take at a cut, and which cuts have the images of all (docs/CRASH-MODEL.md, Any number of losses).
use Rattle.std.specs.Prelude.{ℕ, zero, suc, ◌+◌, ◌==◌, Bool, false, not, ◌&&◌, ◌||◌, List, length, filter, slice_get}
use Rattle.std.specs.Option.{option_map_or}
use Rattle.logfmt.specs.declared.entry.Entry.{Entry}
use Rattle.epochs.specs.declared.part.Part.{Part}
use Rattle.epochs.specs.declared.part.By.{By}
use Rattle.epochs.specs.Parts.{parts_before}
use Rattle.epochs.specs.Units.{is_forced, is_flush_between}

-- Entry e is at risk at cut k: no flush entry stands between the two, and it isn't forced to the device with its data (FUA), or it is
-- the last entry before the cut. Then it is in flight: forced data is durable when its write has ended, and not before.
abbrev pub is_at_risk : List Entry → ℕ → ℕ → Bool
is_at_risk es k e = (not (is_forced es e) || (e + 1 == k)) && not (is_flush_between es e k)

-- the parts of entries at risk, in order
unfoldable pub parts_at_risk : By → List Entry → ℕ → List Part
parts_at_risk way es k = filter (λ (p : Part). is_at_risk es k p.entry) (parts_before way es k)

-- entry k is a flush entry or a mark
abbrev pub ends_here : List Entry → ℕ → Bool
ends_here es k = option_map_or (λ (entry : Entry). entry.flags.flush || entry.flags.mark) (slice_get es k) false

-- the entry before cut k is forced to the device with its data
abbrev pub is_after_forced : List Entry → ℕ → Bool
is_after_forced es zero = false
is_after_forced es (suc e) = is_forced es e

-- A last cut: the end of the log, a cut before a flush entry or a mark, or one after an entry that is forced to the device. No later
-- cut has its images.
abbrev pub is_last_cut : List Entry → ℕ → Bool
is_last_cut es k = (k == length es) || (ends_here es k || is_after_forced es k)
