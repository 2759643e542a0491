-- A choice as the report prints it (docs/OUTPUT.md, The report): its departures, each by its part and its fate.
use Rattle.std.specs.Prelude.{ℕ, ◌≡◌, ◌<◌, ◌≤◌, ◌^◌, List, [], ◌∷◌, ◌++◌, All, codes, length, map, true}
use Rattle.std.specs.Fmt.{decimal}
use Rattle.std.specs.List.{flat_map}
use Rattle.epochs.specs.declared.part.By.{By}
use Rattle.epochs.specs.declared.part.By.TheVariants as by
use Rattle.choices.specs.declared.name.Name.{Name}
use Rattle.choices.specs.CrashModel.{IsFate}
use Rattle.choices.specs.declared.choice.Departure.{Departure}
use Rattle.choices.specs.declared.fate.Fate.{Fate}
use Rattle.choices.specs.declared.fate.Fate.TheVariants as fate
use Rattle.choices.specs.Named.{name_of}

-- what became of a part that is not whole
abbrev pub fate_text : Fate → List ℕ
fate_text fate.Drop = codes "drop"
fate_text (fate.Head eighths) = codes "head" ++ decimal eighths
fate_text (fate.Tail eighths) = codes "tail" ++ decimal eighths

-- a part: its entry, and by sector its place there too
unfoldable pub part_text : By → ℕ → ℕ → List ℕ
part_text by.Sector entry place = decimal entry ++ codes "." ++ decimal place
part_text by.Write entry place = decimal entry

-- a departure by its name: its part, and what became of it
unfoldable pub name_text : By → Name → List ℕ
name_text way n = part_text way n.entry n.place ++ codes ":" ++ fate_text n.fate

-- a departure that follows another
abbrev pub next_name_text : By → Name → List ℕ
next_name_text way n = codes "," ++ name_text way n

-- the departures of a choice by their names, joined by commas; a hyphen where there is none
unfoldable pub names_text : By → List Name → List ℕ
names_text way [] = codes "-"
names_text way (n ∷ ns) = name_text way n ++ flat_map (next_name_text way) ns

-- the departures of a choice
abbrev pub departures_text : By → List Departure → List ℕ
departures_text way ds = names_text way (map name_of ds)

-- the place of a part in its entry: by write a part is the whole entry
abbrev pub IsPlace : By → ℕ → Type 0
IsPlace by.Sector place = place < 2 ^ 32
IsPlace by.Write place = place ≡ 0

-- a name within the range of its numbers
pub record IsName (way : By) (n : Name) : Type 0 where
  pub entry : n.entry < 2 ^ 32
  pub place : IsPlace way n.place
  pub fate : IsFate true n.fate

-- the names of a choice: at most three
pub record AreNames (way : By) (ns : List Name) : Type 0 where
  pub few : length ns ≤ 3
  pub names : All (IsName way) ns

-- a text is that of these names
pub record IsTextOf (way : By) (text : List ℕ) (ns : List Name) : Type 0 where
  pub names : AreNames way ns
  pub printed : text ≡ names_text way ns

-- a text is that of no names
pub record NoNames (way : By) (text : List ℕ) : Type 0 where
  pub none : (ns : List Name) → IsTextOf way text ns → ⊥
