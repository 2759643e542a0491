-- A choice is printed as the names of what it loses and tears are.
use Rattle.std.proofs.Common.{◌≡◌, List, [], ◌∷◌, map, refl}
use Rattle.std.specs.List.{flat_map}
use Rattle.epochs.specs.declared.part.By.{By}
use Rattle.epochs.specs.declared.part.By.TheVariants as by
use Rattle.choices.specs.declared.choice.Departure.{Departure}
use Rattle.choices.specs.Named.{name_of}
use Rattle.report.specs.LineText.{choice_text, departure_text, next_departure_text, part_text as printed_part}
use Rattle.report.specs.ChoiceText.{name_text, next_name_text, names_text, departures_text, part_text}

one_printed : (way : By) (d : Departure) → departure_text way d ≡ name_text way (name_of d)
unfolding departure_text name_text printed_part part_text
one_printed by.Sector d = refl
one_printed by.Write d = refl

rest_printed : (way : By) (ds : List Departure) → flat_map (next_departure_text way) ds ≡ flat_map (next_name_text way) (map name_of ds)
rest_printed way [] = refl
rest_printed way (d ∷ ds) = rw (one_printed way d, rest_printed way ds) refl

pub prints_choices : (way : By) (ds : List Departure) → choice_text way ds ≡ departures_text way ds
unfolding choice_text names_text
prints_choices way [] = refl
prints_choices way (d ∷ ds) = rw (one_printed way d, rest_printed way ds) refl
