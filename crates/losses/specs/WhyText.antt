-- What fails, as a text (docs/OUTPUT.md, The text of `why`).
use Rattle.std.specs.Prelude.{ℕ, ◌≡◌, ◌<◌, ◌==◌, Bool, if◌then◌else◌, List, [], ◌∷◌, ◌++◌, codes, length, slice_get, Some}
use Rattle.std.specs.Fmt.{decimal}
use Rattle.std.specs.List.{flat_map}
use Rattle.std.specs.Option.{option_map_or}
use Rattle.choices.specs.declared.choice.Departure.{Departure}
use Rattle.choices.specs.declared.fate.Fate.{Fate}
use Rattle.choices.specs.declared.fate.Fate.TheVariants as fate
use Rattle.choices.specs.Choices.{ChoiceValue, ranked_choices}
use Rattle.choices.specs.Sums.{StartsValue}
use Rattle.epochs.specs.declared.part.By.{By}
use Rattle.report.specs.ChoiceText.{part_text, departures_text}
use Rattle.losses.specs.declared.why.cut.CutFailures.{CutFailures}
use Rattle.losses.specs.declared.why.group.FailingGroup.{FailingGroup}
use Rattle.losses.specs.CountedGroups.{ends_at}

-- what became of a part, however much of it is torn
abbrev pub fate_word : Fate → List ℕ
fate_word fate.Drop = codes " lost"
fate_word (fate.Head t) = codes " torn"
fate_word (fate.Tail t) = codes " torn"

abbrev pub lost_text : By → Departure → List ℕ
lost_text way d = part_text way d.part.entry d.part.place ++ fate_word d.fate

abbrev pub next_lost_text : By → Departure → List ℕ
next_lost_text way d = codes ", " ++ lost_text way d

-- which parts are lost, and which are torn; or that the program fails where nothing is
abbrev pub folded_text : By → List Departure → List ℕ
folded_text way [] = codes "where nothing is lost"
folded_text way (d ∷ ds) = lost_text way d ++ flat_map (next_lost_text way) ds

-- how many images
abbrev pub count_text : ℕ → List ℕ
count_text n = if n == 1 then codes "1 image" else decimal n ++ codes " images"

-- whether all of them end as the example does, or only some
abbrev pub same_text : Bool → List ℕ
same_text same = if same then codes ", all " else codes ", some "

-- what a group has in common
unfoldable pub group_head : By → List Departure → FailingGroup → List ℕ
group_head way ds g = codes "group " ++ folded_text way ds ++ codes ": " ++ count_text g.failing ++ same_text g.same

-- its example
unfoldable pub example_text : By → List Departure → FailingGroup → List ℕ
example_text way ds g = codes ", as image " ++ decimal g.image ++ codes " choice " ++ departures_text way ds ++ codes "\n"

-- the line of a group whose example has these departures
unfoldable pub chosen_line : By → List (List ℕ) → FailingGroup → List Departure → List ℕ
chosen_line way outcomes g ds = group_head way ds g ++ ends_at outcomes g.line ++ example_text way ds g

abbrev pub group_line : By → StartsValue → List (List ℕ) → FailingGroup → List ℕ
group_line way s outcomes g = option_map_or (λ (c : ChoiceValue). chosen_line way outcomes g c.departures) (slice_get (ranked_choices s.plan s.bound s.tears) g.image) []

unfoldable pub cut_head : ℕ → CutFailures → List ℕ
cut_head program c =
    codes "cut " ++ decimal c.cut ++ codes " program " ++ decimal program ++ codes " images " ++ decimal c.images ++ codes " failing " ++ decimal c.failing ++ codes "\n"

-- the lines of a cut, where something fails there
abbrev pub cut_text : By → StartsValue → List (List ℕ) → ℕ → CutFailures → List ℕ
cut_text way s outcomes program c = if c.failing == 0 then [] else cut_head program c ++ flat_map (group_line way s outcomes) c.groups.items

-- the lines of the cuts of a program
abbrev pub cuts_text : By → StartsValue → List (List ℕ) → ℕ → List CutFailures → List ℕ
cuts_text way s outcomes program cs = flat_map (cut_text way s outcomes program) cs

-- the images of the groups are images of the run, and have outcomes
pub record IsNumbered (s : StartsValue) (lines : ℕ) (g : FailingGroup) : Type 0 where
  pub image : g.image < length (ranked_choices s.plan s.bound s.tears)
  pub line : g.line < lines

abbrev pub AreNumbered : StartsValue → ℕ → List FailingGroup → Type 0
AreNumbered s lines groups = (i : ℕ) (g : FailingGroup) → slice_get groups i ≡ Some g → IsNumbered s lines g

-- and so are those of all cuts
abbrev pub AreAllNumbered : StartsValue → ℕ → List CutFailures → Type 0
AreAllNumbered s lines cs = (place : ℕ) (c : CutFailures) → slice_get cs place ≡ Some c → AreNumbered s lines c.groups.items
