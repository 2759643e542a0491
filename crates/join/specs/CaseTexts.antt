-- The text of the cases of a range of cuts, as it is read (docs/OUTPUT.md, The text of cases). No log is known here: of a case its line is,
-- and parts are told by their names. What `of_run` says is by the rules of that section; which log would print the text isn't asked.
use Rattle.std.specs.Prelude.{ℕ, ◌≡◌, ◌<◌, ◌≤◌, ◌^◌, ◌+◌, ◌-◌, ◌==◌, ◌&&◌, ◌||◌, nat_lt, nat_le, not, Bool, true, false, if◌then◌else◌, List, [], ◌∷◌, ◌++◌, length, map, codes, find, Option, None, Some, option_map, unwrap_or, slice_get}
use Rattle.std.specs.Fmt.{decimal}
use Rattle.std.specs.List.{flat_map, list_all, list_any}
use Rattle.std.specs.Option.{option_map_or, option_or}
use Rattle.std.specs.Str.{IsUtf8}
use Rattle.epochs.specs.declared.part.By.{By}
use Rattle.epochs.specs.declared.part.By.TheVariants as by
use Rattle.choices.specs.declared.fate.Fate.{Fate}
use Rattle.choices.specs.declared.fate.Fate.TheVariants as fate
use Rattle.choices.specs.declared.name.Name.{Name}
use Rattle.report.specs.ChoiceText.{part_text, names_text}
use Rattle.report.specs.Report.{HeadValue}
use Rattle.losses.specs.declared.flushes.window.Window.{Window}
use Rattle.losses.specs.declared.found.Losses.{Losses}
use Rattle.losses.specs.FoundCases.{most_cases}
use Rattle.case_text.specs.Text.{has_range, are_all_cuts, cases_head, place_text, number_text, fates_text, window_text, counts_text, beyond_text, complete_word}
use Rattle.join.specs.declared.case_parts.names.PartName.{PartName}
use Rattle.join.specs.declared.case_parts.front.CaseFront.{CaseFront}
use Rattle.join.specs.declared.case_parts.totals.CaseTotals.{CaseTotals}
use Rattle.join.specs.Endings.{IsEnding}
use Rattle.join.specs.Heads.{IsPrintedHead, IsSmallOption}
use Rattle.join.specs.Printable.{has_program_and_cut}

-- a part with what may become of it
pub record MixedPart : Type 0 where
  pub part : PartName
  pub fates : List (Option Fate)

-- what a line says of a case on which a program fails: where it stands, what the program ended in, what the representative loses and tears,
-- which parts are whole, of which two fates or more are possible and not all, how many may have any fate, and the window
pub record ToldCase : Type 0 where
  pub front : CaseFront
  pub outcome : List ℕ
  pub lost : List Name
  pub kept : List PartName
  pub mixed : List MixedPart
  pub free : ℕ
  pub window : Option Window

-- with which words it begins
unfoldable pub front_text : CaseFront → List ℕ
front_text f = place_text f.cut f.epoch f.marks ++ number_text f.program f.number

-- parts, joined by commas; a hyphen where there is none
abbrev pub next_part : By → PartName → List ℕ
next_part way p = codes "," ++ part_text way p.entry p.place

unfoldable pub parts_text : By → List PartName → List ℕ
parts_text way [] = codes "-"
parts_text way (p ∷ ps) = part_text way p.entry p.place ++ flat_map (next_part way) ps

-- parts with their fates, joined by commas, where there are some
unfoldable pub mixed_text : By → MixedPart → List ℕ
mixed_text way m = part_text way m.part.entry m.part.place ++ codes ":" ++ fates_text m.fates

abbrev pub next_mixed : By → MixedPart → List ℕ
next_mixed way m = codes "," ++ mixed_text way m

unfoldable pub among_text : By → List MixedPart → List ℕ
among_text way [] = []
among_text way (m ∷ ms) = codes " among " ++ mixed_text way m ++ flat_map (next_mixed way) ms

-- what it says of the parts at risk
unfoldable pub said_text : By → ToldCase → List ℕ
said_text way t =
    codes " choice " ++ names_text way t.lost ++ codes " kept " ++ parts_text way t.kept ++ among_text way t.mixed ++ codes " free " ++ decimal t.free

-- the line, without its newline and with it
unfoldable pub told_body : By → ToldCase → List ℕ
told_body way t = front_text t.front ++ t.outcome ++ said_text way t ++ window_text t.window

abbrev pub told_line : By → ToldCase → List ℕ
told_line way t = told_body way t ++ codes "\n"

-- the last line, of a run that was asked for each cut of its log or for some
unfoldable pub totals_line : Bool → CaseTotals → List ℕ
totals_line all t = counts_text t.cuts t.cases t.failing ++ beyond_text t.torn t.lost ++ complete_word all t.torn t.lost ++ codes "\n"

-- a text of cases: the number of its inputs, its options and programs, what is asked of losses, its lines and what they come to
pub record CasesValue : Type 0 where
  pub inputs : Option ℕ
  pub head : HeadValue
  pub asked : Losses
  pub told : List ToldCase
  pub totals : CaseTotals

unfoldable pub told_text : CasesValue → List ℕ
told_text c = cases_head c.inputs c.head c.asked ++ (flat_map (told_line c.head.by) c.told ++ totals_line (are_all_cuts c.head.cuts) c.totals)

-- the first and the last cut of its range
abbrev pub first_of : HeadValue → ℕ
first_of h = unwrap_or h.cuts.from 0

abbrev pub last_of : HeadValue → ℕ
last_of h = unwrap_or h.cuts.to h.entries

-- the number of the inputs is told where the run is of a range of the cuts, and nowhere else
abbrev pub are_inputs_of_run : HeadValue → Option ℕ → Bool
are_inputs_of_run h None = not (has_range h.cuts)
are_inputs_of_run h (Some inputs) = has_range h.cuts

pub record AreInputs (h : HeadValue) (inputs : Option ℕ) : Type 0 where
  pub told : are_inputs_of_run h inputs ≡ true
  pub small : IsSmallOption inputs

-- with tears 1 to 3 parts may be torn, and without them none; at most 1 to 64 lost, where that is bounded
abbrev pub are_torn_of_run : Losses → Bool
are_torn_of_run asked = if asked.tears then nat_le 1 asked.torn && nat_le asked.torn 3 else asked.torn == 0

abbrev pub are_lost_of_run : Option ℕ → Bool
are_lost_of_run lost = option_map_or (λ n. nat_le 1 n && nat_le n 64) lost true

pub record AreLosses (h : HeadValue) (asked : Losses) : Type 0 where
  pub tears : asked.tears ≡ h.tears
  pub torn : are_torn_of_run asked ≡ true
  pub lost : are_lost_of_run asked.lost ≡ true

-- A PART OF A LINE IS ONE OF A RUN

-- by write a part is its whole entry
abbrev pub is_place_of_run : By → ℕ → Bool
is_place_of_run by.Sector place = nat_lt place (2 ^ 32)
is_place_of_run by.Write place = place == 0

-- it is of an entry before the cut
abbrev pub is_part_of_run : By → ℕ → PartName → Bool
is_part_of_run way cut p = nat_lt p.entry cut && is_place_of_run way p.place

-- of a torn part 1 to 7 eighths arrive; there are none without tears
abbrev pub is_fate_of_run : Bool → Fate → Bool
is_fate_of_run tears fate.Drop = true
is_fate_of_run tears (fate.Head t) = tears && (nat_le 1 t && nat_lt t 8)
is_fate_of_run tears (fate.Tail t) = tears && (nat_le 1 t && nat_lt t 8)

abbrev pub part_of : Name → PartName
part_of n = record { entry = n.entry; place = n.place }

abbrev pub is_lost_of_run : By → Bool → ℕ → Name → Bool
is_lost_of_run way tears cut n = is_part_of_run way cut (part_of n) && is_fate_of_run tears n.fate

-- parts rise by entry, and then by place
abbrev pub is_before : PartName → PartName → Bool
is_before p q = nat_lt p.entry q.entry || ((p.entry == q.entry) && nat_lt p.place q.place)

abbrev pub comes_after : Option PartName → PartName → Bool
comes_after None p = true
comes_after (Some last) p = is_before last p

abbrev pub parts_rise : Option PartName → List PartName → Bool
parts_rise last [] = true
parts_rise last (p ∷ ps) = comes_after last p && parts_rise (Some p) ps

-- fates in their order: whole, the drop, the heads, rising, and the tails, rising
abbrev pub fate_number : Option Fate → ℕ
fate_number None = 0
fate_number (Some fate.Drop) = 1
fate_number (Some (fate.Head t)) = 1 + t
fate_number (Some (fate.Tail t)) = 8 + t

abbrev pub is_above : Option ℕ → ℕ → Bool
is_above None n = true
is_above (Some last) n = nat_lt last n

abbrev pub fates_rise : Option ℕ → List (Option Fate) → Bool
fates_rise last [] = true
fates_rise last (f ∷ fs) = is_above last (fate_number f) && fates_rise (Some (fate_number f)) fs

abbrev pub is_possible : Option Fate → Bool
is_possible None = true
is_possible (Some f) = is_fate_of_run true f

-- some of the sixteen fates of a part with tears, two or more, and not all; without tears a part has two fates, and so none is told
abbrev pub are_fates_of_run : Bool → List (Option Fate) → Bool
are_fates_of_run tears fates = tears && (nat_lt 1 (length fates) && nat_lt (length fates) 16) && (list_all is_possible fates && fates_rise None fates)

abbrev pub is_mixed_of_run : By → Bool → ℕ → MixedPart → Bool
is_mixed_of_run way tears cut m = is_part_of_run way cut m.part && are_fates_of_run tears m.fates

-- a part is among others
abbrev pub is_named_alike : PartName → PartName → Bool
is_named_alike p q = (p.entry == q.entry) && (p.place == q.place)

abbrev pub stands_in : List PartName → PartName → Bool
stands_in parts p = list_any (is_named_alike p) parts

-- what the representative does with a part: none where it is whole
abbrev pub fate_in : List Name → PartName → Option Fate
fate_in lost p = option_map (λ (n : Name). n.fate) (find (λ (n : Name). is_named_alike p (part_of n)) lost)

-- of a mixed part it has the first fate
abbrev pub begins_as : List Name → MixedPart → Bool
begins_as lost m = option_map_or (λ (f : Option Fate). fate_number f == fate_number (fate_in lost m.part)) (slice_get m.fates 0) false

-- a part that is kept is neither lost nor mixed
abbrev pub is_apart : List PartName → List PartName → PartName → Bool
is_apart lost mixed p = not (stands_in lost p) && not (stands_in mixed p)

abbrev pub mixed_parts : List MixedPart → List PartName
mixed_parts mixed = map (λ (m : MixedPart). m.part) mixed

abbrev pub parts_of : List Name → List PartName
parts_of lost = map part_of lost

-- A LINE IS ONE OF A RUN

abbrev pub all_of_run : By → Bool → ℕ → ToldCase → Bool
all_of_run way tears cut t =
    list_all (is_lost_of_run way tears cut) t.lost && list_all (is_part_of_run way cut) t.kept && list_all (is_mixed_of_run way tears cut) t.mixed

abbrev pub all_rise : ToldCase → Bool
all_rise t = parts_rise None (parts_of t.lost) && parts_rise None t.kept && parts_rise None (mixed_parts t.mixed)

abbrev pub go_together : ToldCase → Bool
go_together t = list_all (is_apart (parts_of t.lost) (mixed_parts t.mixed)) t.kept && list_all (begins_as t.lost) t.mixed

-- there is that program, and the cut is one of the range; no more epochs and marks are before it than entries
abbrev pub is_front_of_run : HeadValue → CaseFront → Bool
is_front_of_run h f = has_program_and_cut h f.cut f.program && (nat_le f.epoch f.cut && nat_le f.marks f.cut && nat_lt f.number most_cases)

abbrev pub is_window_of_run : ℕ → Option Window → Bool
is_window_of_run cut None = true
is_window_of_run cut (Some w) = nat_le w.start w.end && nat_lt w.end cut

abbrev pub is_case_of_run : HeadValue → ToldCase → Bool
is_case_of_run h t =
    is_front_of_run h t.front && is_window_of_run t.front.cut t.window && (all_of_run h.by h.tears t.front.cut t && (all_rise t && go_together t))

-- a line of a run with that head, by the rules of docs/OUTPUT.md
pub record IsToldCase (h : HeadValue) (t : ToldCase) : Type 0 where
  pub outcome : IsEnding t.outcome
  pub free : t.free < 2 ^ 64
  pub of_run : is_case_of_run h t ≡ true

abbrev pub AreToldCases : HeadValue → List ToldCase → Type 0
AreToldCases h [] = Unit {0}
AreToldCases h (t ∷ ts) = IsToldCase h t × AreToldCases h ts

-- lines stand by cut, then by program, then by number, each once; those of one cut have its epoch and its marks
abbrev pub is_next : CaseFront → CaseFront → Bool
is_next l f =
    nat_lt l.cut f.cut
    || (((l.cut == f.cut) && (l.epoch == f.epoch) && (l.marks == f.marks)) && (nat_lt l.program f.program || ((l.program == f.program) && nat_lt l.number f.number)))

abbrev pub goes_on : Option CaseFront → CaseFront → Bool
goes_on None f = true
goes_on (Some last) f = is_next last f

abbrev pub fronts_rise : Option CaseFront → List CaseFront → Bool
fronts_rise last [] = true
fronts_rise last (f ∷ fs) = goes_on last f && fronts_rise (Some f) fs

-- at how many cuts there is a line
abbrev pub is_new_cut : Option CaseFront → ℕ → Bool
is_new_cut None cut = true
is_new_cut (Some last) cut = not (last.cut == cut)

abbrev pub count_cuts : Option CaseFront → List CaseFront → ℕ
count_cuts last [] = 0
count_cuts last (f ∷ fs) = (if is_new_cut last f.cut then 1 else 0) + count_cuts (Some f) fs

abbrev pub fronts_of : List ToldCase → List CaseFront
fronts_of told = map (λ (t : ToldCase). t.front) told

-- the totals are those of that many lines, at that many cuts, of a run that isn't refused for the number of its cases
abbrev pub are_totals_of_run : HeadValue → ℕ → ℕ → CaseTotals → Bool
are_totals_of_run h lines cuts t =
    ((t.failing == lines) && nat_le lines t.cases && nat_le t.cases most_cases) && (nat_le cuts t.cuts && nat_le t.cuts (last_of h + 1 - first_of h))

pub record AreTotals (c : CasesValue) : Type 0 where
  pub of_run : are_totals_of_run c.head (length c.told) (count_cuts None (fronts_of c.told)) c.totals ≡ true
  pub torn : c.totals.torn < 2 ^ 64
  pub lost : c.totals.lost < 2 ^ 64

-- the bytes are the text of these cases, by the rules of docs/OUTPUT.md
pub record IsCasesText (bytes : List ℕ) (c : CasesValue) : Type 0 where
  pub utf8 : IsUtf8 bytes
  pub inputs : AreInputs c.head c.inputs
  pub head : IsPrintedHead c.head
  pub asked : AreLosses c.head c.asked
  pub told : AreToldCases c.head c.told
  pub rising : fronts_rise None (fronts_of c.told) ≡ true
  pub totals : AreTotals c
  pub is : bytes ≡ told_text c

pub record NoCasesText (bytes : List ℕ) : Type 0 where
  pub none : (c : CasesValue) → IsCasesText bytes c → ⊥
