-- What holds of the windows of cases.
use Rattle.std.specs.Prelude.{ℕ, ◌+◌, ◌==◌, ◌≡◌, ◌<◌, ◌≤◌, ◌⊎◌, nat_lt, true, false, if◌then◌else◌, List, length, None, Some, MatchOption}
use Rattle.logfmt.specs.declared.entry.Entry.{Entry}
use Rattle.logfmt.specs.Flushed.{flushed_at, is_place}
use Rattle.epochs.specs.declared.part.By.{By}
use Rattle.epochs.specs.declared.part.Part.{Part}
use Rattle.choices.specs.declared.fate.Fate.TheVariants as fate
use Rattle.choices.specs.declared.choice.Departure.{Departure}
use Rattle.cases.specs.Risk.{parts_at_risk}
use Rattle.cases.specs.Choices.{Choice, departures}
use Rattle.cases.specs.Cases.{Case, representative}
use Rattle.cases.specs.Laws.{IsAmong, Includes}
use Rattle.cases.specs.AtCut.{CutValue, parts_of}
use Rattle.losses.specs.declared.flushes.window.Window.{Window}
use Rattle.losses.specs.Places.{Holds}
use Rattle.losses.specs.WindowLaws.{up_to, only_of}
use Rattle.case_text.specs.Known.{is_never_whole, is_never_gone, first_lost, last_arrived}
use Rattle.case_text.specs.Causes.{is_entry}
use Rattle.case_text.specs.Window.{stays, case_window}

-- no choice at a cut of some entries loses and tears just that
abbrev pub NoneDeparts : By → List Entry → ℕ → List Departure → Type 0
NoneDeparts way es k ds = (other : Choice) → ¬ (departures other (parts_at_risk way es k) ≡ ds)

-- A flush in the window of a case takes all its images away: in the log with that flush, and with any others, what a choice of the case
-- loses and tears is lost by no choice at its cut. Nor is what it loses and tears up to the end of the window by one right after that.
abbrev pub FlushTakesCaseAway : Type 0
FlushTakesCaseAway =
    (at : CutValue) (c : Case) (choice : Choice) (w : Window) (places : List ℕ) (p : ℕ)
    → at.cut ≤ length at.log.entries → case_window at c ≡ Some w → Includes choice c → Holds w p → is_place places p ≡ true
    → NoneDeparts at.way (flushed_at (is_place places) at.log.entries) at.cut (departures choice (parts_of at))
    × NoneDeparts at.way (flushed_at (is_place places) at.log.entries) (w.end + 1) (up_to w.end (departures choice (parts_of at)))

-- something of entry e is there on each image of a case, or it is a mark
abbrev pub IsThere : CutValue → Case → ℕ → Type 0
IsThere at c e =
    (stays at.way at.log.entries at.cut e ≡ true)
    ⊎ ((p : Part) × IsAmong (parts_of at) p × (is_never_gone (c p) ≡ true) × (p.entry ≡ e))

-- the window of a case: from after the first entry of which a part isn't whole on any image to the last entry of which something is there on
-- each, or that is a mark
pub record IsWindow (at : CutValue) (c : Case) (w : Window) : Type 0 where
  pub first : Part
  pub risky : IsAmong (parts_of at) first
  pub lost : is_never_whole (c first) ≡ true
  pub earliest : (p : Part) → IsAmong (parts_of at) p → is_never_whole (c p) ≡ true → first.entry ≤ p.entry
  pub start : w.start ≡ first.entry + 1
  pub order : w.start ≤ w.end
  pub before : w.end < at.cut
  pub end : IsThere at c w.end
  pub last : (e : ℕ) → w.end < e → e < at.cut → ¬ (IsThere at c e)

-- no window: after an entry of which a part isn't whole on any image there is none of which something is there on each
abbrev pub HasNoWindow : CutValue → Case → Type 0
HasNoWindow at c = (p : Part) (e : ℕ) → IsAmong (parts_of at) p → is_never_whole (c p) ≡ true → p.entry < e → e < at.cut → ¬ (IsThere at c e)

-- what is printed as the window of a case is its window, and where none is there is none
abbrev pub WindowIsTold : Type 0
WindowIsTold = (at : CutValue) (c : Case) → at.cut ≤ length at.log.entries → MatchOption (case_window at c) (HasNoWindow at c) (IsWindow at c)

-- a choice is of a case, by the parts at risk
abbrev pub IsOfCase : CutValue → Case → Choice → Type 0
IsOfCase at c choice = (p : Part) → IsAmong (parts_of at) p → IsAmong (c p) (choice p)

-- what was written before entry e is whole, of e itself it is as in the representative, and what was written after it is lost
abbrev pub only_choice : Case → ℕ → Choice
only_choice c e p = if nat_lt p.entry e then None else if p.entry == e then representative c p else Some fate.Drop

-- what was written before entry e is whole, and all else is lost
abbrev pub before_choice : ℕ → Choice
before_choice e p = if nat_lt p.entry e then None else Some fate.Drop

-- What a case without a window is shown by, where entry e is the first of which a part is whole on none of its images: a choice of the case
-- in which all that was written after e is lost. What it loses and tears up to e is what the representative loses and tears of e alone. No
-- mark stands after e, and nothing that isn't at risk. Where nothing of e has to arrive, there is also one in which e is lost too.
pub record IsShownBy (at : CutValue) (c : Case) (e : ℕ) : Type 0 where
  pub only : IsOfCase at c (only_choice c e)
  pub gone : up_to e (departures (only_choice c e) (parts_of at)) ≡ only_of e (departures (representative c) (parts_of at))
  pub quiet : (i : ℕ) → e < i → i < at.cut → stays at.way at.log.entries at.cut i ≡ false
  pub before : is_entry (last_arrived c (parts_of at)) e ≡ false → IsOfCase at c (before_choice e)

abbrev pub CaseIsShown : Type 0
CaseIsShown =
    (at : CutValue) (c : Case) (e : ℕ) → at.cut ≤ length at.log.entries → IsOfCase at c (representative c) → case_window at c ≡ None → first_lost c (parts_of at) ≡ Some e
    → IsShownBy at c e

-- of a case in which no part is so, it is the image with nothing lost
abbrev pub NothingIsLost : Type 0
NothingIsLost = (at : CutValue) (c : Case) → first_lost c (parts_of at) ≡ None → IsOfCase at c (λ p. None)
