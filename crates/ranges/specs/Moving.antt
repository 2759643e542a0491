-- A state that is changed in place, or left where nothing gets there.
use Rattle.std.specs.Prelude.{Bool, true, false, Option, None, Some}
use Rattle.ranges.specs.States.{Abstract}

-- the state where something gets there
abbrev pub reach : Bool → Abstract → Option Abstract
reach true s = Some s
reach false s = None
