-- Abstract states: a value for each register, and what is known of each byte of the stack of the
-- frame at hand (docs/VERIFIER.md, Abstract states).
use Rattle.std.specs.Prelude.{◌≡◌, List, [], ◌∷◌, map, replicate}
use Rattle.ranges.specs.Kinds.{Kind, Unset, Ctx, Stack, join, round}
use Rattle.ranges.specs.Groups.{GroupKind, Marked, zip_with, unset_marks, join_group, round_group}

-- eleven values and 64 groups
pub record Abstract : Type 0 where
  pub values : List Kind
  pub groups : List GroupKind

unfoldable pub join_state : Abstract → Abstract → Abstract
join_state s t = record { values = zip_with join s.values t.values; groups = zip_with join_group s.groups t.groups }

unfoldable pub round_state : Abstract → Abstract
round_state s = record { values = map round s.values; groups = map round_group s.groups }

-- the first covers all that the second does: it is the join of both
abbrev pub StateContains : Abstract → Abstract → Type 0
StateContains s t = join_state s t ≡ s

-- 64 groups of unset bytes
unfoldable pub unset_groups : List GroupKind
unset_groups = replicate 64 (Marked unset_marks)

-- register 1 has the context, register 10 the end of the stack, and nothing else is known
unfoldable pub start : Abstract
start = record {
  values = Unset ∷ Ctx 0 ∷ Unset ∷ Unset ∷ Unset ∷ Unset ∷ Unset ∷ Unset ∷ Unset ∷ Unset ∷ Stack 512 ∷ [];
  groups = unset_groups;
}
