-- A failing line as it is printed (docs/OUTPUT.md, The report). It ends with one newline; numbers are decimal.
use Rattle.std.specs.Prelude.{ℕ, List, [], ◌∷◌, ◌++◌, codes}
use Rattle.std.specs.Fmt.{decimal}
use Rattle.std.specs.List.{flat_map}
use Rattle.base.specs.Causes.{fault_number}
use Rattle.machine.specs.Outcome.{Ending, Verdict, Stopped, OutOfSteps, Stray}
use Rattle.epochs.specs.declared.part.By.{By}
use Rattle.epochs.specs.declared.part.By.TheVariants as by
use Rattle.epochs.specs.declared.part.Part.{Part}
use Rattle.choices.specs.declared.choice.Departure.{Departure}
use Rattle.report.specs.ChoiceText.{fate_text}
use Rattle.report.specs.Line.{FailingLine}

-- the codes of a verdict, joined by commas; a hyphen where there is none
unfoldable pub codes_text : List ℕ → List ℕ
codes_text [] = codes "-"
codes_text (c ∷ cs) = decimal c ++ flat_map (λ (n : ℕ). codes "," ++ decimal n) cs

-- what a checker ended in
abbrev pub ending_text : Ending → List ℕ
ending_text (Verdict answer numbers) = codes "answer " ++ decimal answer ++ codes " codes " ++ codes_text numbers
ending_text (Stopped cause slot) = codes "fault " ++ decimal (fault_number cause) ++ codes " slot " ++ decimal slot
ending_text OutOfSteps = codes "out of steps"
ending_text (Stray slot) = codes "stray at slot " ++ decimal slot

-- a part: its entry, and by sector its place there too
unfoldable pub part_text : By → Part → List ℕ
part_text by.Sector p = decimal p.entry ++ codes "." ++ decimal p.place
part_text by.Write p = decimal p.entry

-- a departure: its part, and what became of it
unfoldable pub departure_text : By → Departure → List ℕ
departure_text way d = part_text way d.part ++ codes ":" ++ fate_text d.fate

-- a departure that follows another
abbrev pub next_departure_text : By → Departure → List ℕ
next_departure_text way d = codes "," ++ departure_text way d

-- the departures of a choice, joined by commas; a hyphen where there is none
unfoldable pub choice_text : By → List Departure → List ℕ
choice_text way [] = codes "-"
choice_text way (d ∷ ds) = departure_text way d ++ flat_map (next_departure_text way) ds

-- a failing line
unfoldable pub line_text : FailingLine → List ℕ
line_text l =
    codes "image " ++ decimal l.image ++ codes " cut " ++ decimal l.cut ++ codes " program " ++ decimal l.program ++ codes " "
    ++ ending_text l.ending ++ codes " choice " ++ choice_text l.by l.departures ++ codes "\n"
