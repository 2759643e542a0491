-- Departures by their numbers.
use Rattle.std.proofs.Common.{ℕ, ◌≡◌, ◌+◌, List, [], ◌∷◌, ◌++◌, map, take, slice_get, Some, refl, sym, add-one}
use Rattle.std.specs.List.{slice_index_or}
use Rattle.std.proofs.lemmas.List.{map-append}
use Rattle.std.proofs.lemmas.Option.{get_or_from_slice_get}
use Rattle.base.proofs.Lists.{take-suc_place}
use Rattle.epochs.specs.declared.part.Part.{Part}
use Rattle.choices.specs.declared.pick.Pick.{Pick}
use Rattle.choices.specs.declared.fate.Fate.{Fate}
use Rattle.choices.specs.declared.choice.Departure.{Departure}
use Rattle.choices.specs.Choices.{departure_of, fate_of, nowhere}

-- a part and a fate that were found by their numbers are the departure of these
pub departs_as : (parts : List Part) (pick : Pick) (u : Part) (f : Fate) → slice_get parts pick.part ≡ Some u → f ≡ fate_of pick.fate
    → record { part = u; fate = f } ≡ departure_of parts pick
unfolding departure_of
departs_as parts pick u f there fate =
    let here : slice_index_or parts pick.part nowhere ≡ u = get_or_from_slice_get parts pick.part u nowhere there in
    rw (here, fate) refl

-- one departure more
pub departs_next : (parts : List Part) (picks : List Pick) (i : ℕ) (pick : Pick) (done more : List Departure) (d : Departure)
    → slice_get picks i ≡ Some pick → done ≡ map (departure_of parts) (take i picks) → more ≡ done ++ d ∷ [] → d ≡ departure_of parts pick
    → more ≡ map (departure_of parts) (take (i + 1) picks)
departs_next parts picks i pick done more d here so is own =
    rw (is, so, own, add-one i, take-suc_place picks i pick here) (sym (map-append (departure_of parts) (take i picks) (pick ∷ [])))
