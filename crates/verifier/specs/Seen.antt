-- How contracts see tables and what is passed.
use Rattle.std.specs.Prelude.{ℕ, List, map, Option}
use Rattle.std.specs.Option.{option_map}
use Rattle.ranges.specs.declared.state.State.{State}
use Rattle.ranges.specs.States.{Abstract}
use Rattle.ranges.specs.SeenStates.{state_of}
use Rattle.verifier.specs.declared.passing.Arrival.{Arrival}

abbrev pub table_of : List (Option State) → List (Option Abstract)
table_of states = map (option_map state_of) states

abbrev pub arrival_of : Arrival → ℕ × Abstract
arrival_of a = (a.slot, state_of a.state)
