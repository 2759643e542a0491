-- How contracts see what the rules without signed bounds know: as the values, groups and states that
-- hold the same.
use Rattle.std.specs.Prelude.{List, map, Option}
use Rattle.std.specs.Option.{option_map}
use Rattle.intervals.specs.Seen.{span_of}
use Rattle.ranges.specs.Kinds.{Kind, Unset, Ctx, Stack, Sector, SectorOrNull}
use Rattle.ranges.specs.Groups.{GroupKind, Marked, Spilled}
use Rattle.ranges.specs.States.{Abstract}
use Rattle.ranges.specs.Seen.{offsets_of}
use Rattle.verifier.specs.Unsigned.{number}
use Rattle.verifier.specs.declared.unsigned_state.Pointer.{Pointer}
use Rattle.verifier.specs.declared.unsigned_state.Pointer.TheVariants as pointer
use Rattle.verifier.specs.declared.unsigned_state.UnsignedValue.{UnsignedValue}
use Rattle.verifier.specs.declared.unsigned_state.UnsignedValue.TheVariants as value
use Rattle.verifier.specs.declared.unsigned_state.UnsignedGroup.{UnsignedGroup}
use Rattle.verifier.specs.declared.unsigned_state.UnsignedGroup.TheVariants as group
use Rattle.verifier.specs.declared.unsigned_state.UnsignedState.{UnsignedState}

abbrev pub pointer_kind : Pointer → Kind
pointer_kind (pointer.Ctx o) = Ctx o.offset
pointer_kind (pointer.Stack o) = Stack o.offset
pointer_kind (pointer.Sector x) = Sector (offsets_of x)
pointer_kind pointer.SectorOrNull = SectorOrNull

-- a number has a full signed range, reduced
abbrev pub unsigned_kind : UnsignedValue → Kind
unsigned_kind value.Unset = Unset
unsigned_kind (value.Num x) = number (span_of x)
unsigned_kind (value.Pointer p) = pointer_kind p

abbrev pub unsigned_group : UnsignedGroup → GroupKind
unsigned_group (group.Marked marks) = Marked marks.written
unsigned_group (group.Spilled p) = Spilled (pointer_kind p)

abbrev pub unsigned_state : UnsignedState → Abstract
unsigned_state s = record { values = map unsigned_kind s.values; groups = map unsigned_group s.groups }

abbrev pub unsigned_table : List (Option UnsignedState) → List (Option Abstract)
unsigned_table states = map (option_map unsigned_state) states
