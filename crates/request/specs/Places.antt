-- The place of each option, as a refusal prints it (docs/REFUSALS.md, Places).
use Rattle.std.specs.Prelude.{ℕ}
use Rattle.request.specs.declared.settings.OptionPlace.{OptionPlace}
use Rattle.request.specs.declared.settings.OptionPlace.TheVariants as place

abbrev pub place_number : OptionPlace → ℕ
place_number place.Sectors = 1
place_number place.Bound = 2
place_number place.Workers = 3
place_number place.Cache = 4
place_number place.Checked = 5
place_number place.Programs = 6
place_number place.Cuts = 7
place_number place.Image = 9
place_number place.By = 10
place_number place.Choice = 11
place_number place.Flush = 12
place_number place.Range = 13
place_number place.Base = 14
place_number place.Epoch = 15
place_number place.Marks = 16
place_number place.Images = 17
place_number place.Parts = 18
place_number place.Guards = 19
place_number place.Torn = 20
place_number place.AtMost = 21
place_number place.Known = 22
place_number place.Cases = 23
