-- What comes of a state: none, the entry of a local function, or one in which a register or two change, those of a call, a
-- group of the stack, or bytes of it.
use Rattle.std.specs.Prelude.{ℕ, Bool, true, false, List, slice_set, Option, None, Some}
use Rattle.ranges.specs.declared.change.Change.{Change}
use Rattle.ranges.specs.declared.change.Change.TheVariants as change
use Rattle.ranges.specs.declared.change.Effect.{Effect}
use Rattle.ranges.specs.declared.change.Effect.TheVariants as effect
use Rattle.ranges.specs.States.{Abstract}
use Rattle.ranges.specs.Groups.{GroupKind, map_places}
use Rattle.ranges.specs.After.{after_answer, group_after, group_forgotten}
use Rattle.ranges.specs.Passing.{entry_state}
use Rattle.ranges.specs.Reading.{with_value, with_groups}
use Rattle.ranges.specs.Seen.{kind_of}
use Rattle.ranges.specs.SeenStates.{group_of}

-- n bytes from a place on are written, or nothing is known of them any more
abbrev pub group_beyond : Bool → ℕ → ℕ → ℕ → GroupKind → GroupKind
group_beyond true = group_after
group_beyond false = group_forgotten

unfoldable pub groups_after : Bool → ℕ → ℕ → List GroupKind → List GroupKind
groups_after are_set at n groups = map_places (group_beyond are_set at n) 0 groups

abbrev pub after_change : Abstract → Change → Abstract
after_change s change.Stays = s
after_change s (change.Register r v) = with_value s r (kind_of v)
after_change s (change.Registers r v q w) = with_value (with_value s r (kind_of v)) q (kind_of w)
after_change s (change.Answer v) = after_answer s (kind_of v)
after_change s (change.Group n g) = with_groups s (slice_set s.groups n.number (group_of g))
after_change s (change.Bytes b) = with_groups s (groups_after b.are_set b.at b.n s.groups)
after_change s (change.Copied b v) = after_answer (with_groups s (groups_after b.are_set b.at b.n s.groups)) (kind_of v)

-- the state that an effect leaves, if it leaves one
abbrev pub left_of : Abstract → Effect → Option Abstract
left_of s effect.Nothing = None
left_of s (effect.Changed c) = Some (after_change s c)
left_of s effect.Entered = Some (entry_state s)
