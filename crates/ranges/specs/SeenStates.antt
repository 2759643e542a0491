-- How contracts see groups and states.
use Rattle.std.specs.Prelude.{map}
use Rattle.ranges.specs.declared.group.Group.{Group}
use Rattle.ranges.specs.declared.group.Group.TheVariants as group
use Rattle.ranges.specs.declared.state.State.{State}
use Rattle.ranges.specs.Groups.{GroupKind, Marked, Spilled}
use Rattle.ranges.specs.States.{Abstract}
use Rattle.ranges.specs.Seen.{kind_of}

abbrev pub group_of : Group → GroupKind
group_of (group.Marked marks) = Marked marks.written
group_of (group.Spilled s) = Spilled (kind_of s.value)

abbrev pub state_of : State → Abstract
state_of s = record { values = map kind_of s.values; groups = map group_of s.groups }
