-- What the types of the code keep: each of its states is within the bounds of states.
use Rattle.std.proofs.Common.{◌∙◌, List, [], ◌∷◌, map}
use Rattle.std.proofs.lemmas.List.{length-map}
use Rattle.intervals.proofs.Typed.{limits_are}
use Rattle.ranges.specs.declared.group.Group.{Group}
use Rattle.ranges.specs.declared.group.Group.TheVariants as group
use Rattle.ranges.specs.declared.state.State.{State}
use Rattle.ranges.specs.declared.value.Value.{Value}
use Rattle.ranges.specs.declared.value.Value.TheVariants as value
use Rattle.ranges.specs.Order.{IsBounded, IsGroup, IsState, Each}
use Rattle.ranges.specs.Seen.{kind_of}
use Rattle.ranges.specs.SeenStates.{group_of, state_of}

value_fits : (v : Value) → IsBounded (kind_of v)
value_fits value.Unset = tt
value_fits value.Word = tt
value_fits (value.Num x) = limits_are x
value_fits (value.Ctx o) = o.within
value_fits (value.Stack o) = o.within
value_fits (value.Sector x) = record { ordered = x.ordered; most = x.fits }
value_fits value.SectorOrNull = tt

group_fits : (g : Group) → IsGroup (group_of g)
group_fits (group.Marked marks) = marks.all
group_fits (group.Spilled s) = (s.known, value_fits s.value)

each_fits : {X Y : Type 0} (P : Y → Type 0) (f : X → Y) → ((x : X) → P (f x)) → (xs : List X) → Each P (map f xs)
each_fits P f h [] = tt
each_fits P f h (x ∷ xs) = (h x, each_fits P f h xs)

pub each_state_fits : (s : State) → IsState (state_of s)
each_state_fits s = record {
  values = each_fits IsBounded kind_of value_fits s.values;
  groups = each_fits IsGroup group_of group_fits s.groups;
  registers = length-map s.values kind_of ∙ s.registers;
  stack = length-map s.groups group_of ∙ s.stack;
}
