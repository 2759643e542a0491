-- The window of a case: where a flush takes all its images away (docs/CRASH-MODEL.md, Any number of losses).
use Rattle.std.specs.Prelude.{ℕ, zero, suc, ◌+◌, max, nat_lt, Bool, false, not, ◌&&◌, ◌||◌, if◌then◌else◌, List, slice_get, Option, None, Some}
use Rattle.std.specs.Option.{option_map_or}
use Rattle.logfmt.specs.declared.entry.Entry.{Entry}
use Rattle.epochs.specs.declared.part.By.{By}
use Rattle.epochs.specs.Parts.{part_count}
use Rattle.cases.specs.Risk.{is_at_risk}
use Rattle.cases.specs.Cases.{Case}
use Rattle.cases.specs.AtCut.{CutValue, parts_of}
use Rattle.losses.specs.declared.flushes.window.Window.{Window}
use Rattle.case_text.specs.Known.{first_lost, last_arrived}

-- the last number below n for which a test holds
abbrev pub last_below : (ℕ → Bool) → ℕ → Option ℕ
last_below test zero = None
last_below test (suc n) = if test n then Some n else last_below test n

-- Entry e stands on each image of a cut: it is a mark, or it has parts, and none of them is at risk there.
abbrev pub stays : By → List Entry → ℕ → ℕ → Bool
stays way es k e =
    option_map_or (λ (entry : Entry). entry.flags.mark || (nat_lt 0 (part_count way entry) && not (is_at_risk es k e))) (slice_get es e) false

-- the last entry that does
abbrev pub last_staying : CutValue → Option ℕ
last_staying at = last_below (stays at.way at.log.entries at.cut) at.cut

-- the later of two entries, each of which there may not be
abbrev pub later : Option ℕ → Option ℕ → Option ℕ
later None other = other
later (Some e) None = Some e
later (Some e) (Some f) = Some (max e f)

-- right after the first entry up to the second, if that is later
abbrev pub between : Option ℕ → Option ℕ → Option Window
between None last = None
between (Some first) None = None
between (Some first) (Some last) = if nat_lt first last then Some (record { start = first + 1; end = last }) else None

-- The window of a case: from after the first entry of which a part isn't whole to the last entry of which something arrived or that is a
-- mark, on each of its images.
abbrev pub case_window : CutValue → Case → Option Window
case_window at c = between (first_lost c (parts_of at)) (later (last_staying at) (last_arrived c (parts_of at)))
