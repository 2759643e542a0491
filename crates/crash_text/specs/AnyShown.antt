-- A crash image with any number of lost or torn parts in words (docs/OUTPUT.md, The text of `show`).
use Rattle.std.specs.Prelude.{ℕ, ◌+◌, ◌-◌, ◌==◌, nat_lt, Bool, false, ◌&&◌, if◌then◌else◌, List, [], ◌++◌, codes, slice_get, Option, None, Some}
use Rattle.std.specs.List.{flat_map}
use Rattle.std.specs.Option.{option_map_or}
use Rattle.logfmt.specs.declared.entry.Entry.{Entry}
use Rattle.epochs.specs.declared.part.Part.{Part}
use Rattle.epochs.specs.Plan.{PlanValue}
use Rattle.choices.specs.declared.choice.Departure.{Departure}
use Rattle.report.specs.ChoiceText.{departures_text}
use Rattle.report.specs.Words.{cuts_words}
use Rattle.crash_text.specs.declared.cut.ToldKind.TheVariants as told
use Rattle.crash_text.specs.Cut.{place_text, arrived_text, volatile_text, last_text, before_text}
use Rattle.crash_text.specs.Sectors.{difference_text}
use Rattle.crash_text.specs.Shown.{by_word, numbered_text, cut_text}

-- the options, where any number of parts may be lost
unfoldable pub any_chosen_text : PlanValue → Bool → List ℕ
any_chosen_text plan tears = codes " bound any tears " ++ (if tears then codes "yes" else codes "no") ++ codes " by " ++ by_word plan.by ++ cuts_words plan.kind ++ codes "\n"

-- Entry e is in flight at a cut: it is the last before it, and forced to the device with its data (FUA). Forced data is durable when
-- its write has ended, and not before.
abbrev pub is_in_flight : List Entry → ℕ → ℕ → Bool
is_in_flight es cut e = option_map_or (λ (x : Entry). x.flags.fua && (e + 1 == cut)) (slice_get es e) false

abbrev pub flight_word : List Entry → ℕ → ℕ → List ℕ
flight_word es cut e = if is_in_flight es cut e then codes ", in flight" else []

-- a departure at a cut, with whether its entry is in flight
unfoldable pub any_departed_line : List Entry → ℕ → Departure → List ℕ
any_departed_line es cut d = codes "departed: " ++ place_text d.part ++ flight_word es cut d.part.entry ++ codes ": " ++ arrived_text d.part.count d.fate ++ codes "\n"

-- all of an entry as one part
abbrev pub entry_part : ℕ → Entry → Part
entry_part e x = record { entry = e; place = 0; count = x.count; sector = x.sector }

abbrev pub place_at : List Entry → ℕ → List ℕ
place_at es e = option_map_or (λ (x : Entry). place_text (entry_part e x)) (slice_get es e) []

-- an entry is forced to the device, and has data
abbrev pub has_forced_data : List Entry → ℕ → Bool
has_forced_data es e = option_map_or (λ (x : Entry). x.flags.fua && nat_lt 0 x.count) (slice_get es e) false

-- the entry in flight at a cut, if it has data
abbrev pub in_flight : List Entry → ℕ → Option ℕ
in_flight es cut = if nat_lt 0 cut && has_forced_data es (cut - 1) then Some (cut - 1) else None

unfoldable pub flight_text : List Entry → ℕ → List ℕ
flight_text es cut = codes "in flight: " ++ option_map_or (place_at es) (in_flight es cut) (codes "none") ++ codes "\n"

-- a cut, and what is lost and torn there
unfoldable pub any_line : PlanValue → ℕ → List Departure → List ℕ
any_line plan cut ds = cut_text plan cut ++ codes " choice " ++ departures_text plan.by ds ++ codes "\n"

unfoldable pub any_departed_text : List Entry → ℕ → List Departure → List ℕ
any_departed_text es cut ds = flat_map (any_departed_line es cut) ds

-- what stands at the cut
unfoldable pub any_cut_shown : PlanValue → ℕ → List ℕ
any_cut_shown plan cut =
    volatile_text plan cut ++ flight_text plan.log.entries cut ++ before_text plan.log.entries cut ++ last_text told.Flush plan.log.entries cut ++ last_text told.Mark plan.log.entries cut

-- what is said of an image before what in it differs: what it is numbered by, what is lost and torn, and its cut
unfoldable pub any_head_text : PlanValue → Bool → ℕ → List Departure → List ℕ
any_head_text plan tears cut ds = numbered_text plan ++ any_chosen_text plan tears ++ any_line plan cut ds ++ any_departed_text plan.log.entries cut ds ++ any_cut_shown plan cut

-- an image in words: that, and what in it differs from the image of the cut where nothing departs
abbrev pub any_shown_text : PlanValue → Bool → ℕ → List Departure → List (List ℕ) → List (List ℕ) → List ℕ
any_shown_text plan tears cut ds whole image = any_head_text plan tears cut ds ++ difference_text whole image
