-- The bounds of values, groups and states are kept.
use Rattle.std.proofs.Common.{◌≡◌, ℕ, zero, suc, ◌≤◌, ◌==◌, ◌&&◌, not, Bool, true, false, if◌then◌else◌, IsTrue, List, [], ◌∷◌, length, map, replicate, get_or, refl, sym, ◌∙◌, arith}
use Rattle.std.specs.Prelude.{set}
use Rattle.std.proofs.lemmas.List.{length-map}
use Rattle.intervals.specs.Spans.{Span, IsSpan, hull}
use Rattle.intervals.proofs.Digits.{rounded_fits}
use Rattle.intervals.proofs.Smaller as limits
use Rattle.intervals.proofs.SignedDigits.{limits_rounded_fits}
use Rattle.ranges.specs.Kinds.{Kind, Unset, Word, Num, Ctx, Stack, Sector, SectorOrNull, is_unknown, join, round}
use Rattle.ranges.specs.Groups.{GroupKind, Marked, Spilled, zip_with, unset_marks, group_kept, marks_at_join, join_group, round_group}
use Rattle.ranges.specs.States.{Abstract, join_state, round_state, start, unset_groups}
use Rattle.ranges.specs.Order.{IsBounded, IsGroup, Each, IsState}

-- lists, place by place

each_zip : {X : Type 0} (P : X → Type 0) (j : X → X → X) → ((x y : X) → P x → P y → P (j x y))
    → (xs ys : List X) → Each P xs → Each P ys → Each P (zip_with j xs ys)
unfolding zip_with
each_zip P j f [] ys a b = tt
each_zip P j f (x ∷ xs) [] a b = tt
each_zip P j f (x ∷ xs) (y ∷ ys) a b = (f x y a.0 b.0, each_zip P j f xs ys a.1 b.1)

length_zip : {X : Type 0} (j : X → X → X) (xs ys : List X) → length xs ≡ length ys → length (zip_with j xs ys) ≡ length xs
unfolding zip_with
length_zip j [] ys e = refl
length_zip j (x ∷ xs) [] e = absurd (let bad : suc (length xs) ≡ 0 = e in cc)
length_zip j (x ∷ xs) (y ∷ ys) e = let rest = length_zip j xs ys (omega arith) in omega (arith, rest)

pub each_mapped : {X : Type 0} (P : X → Type 0) (r : X → X) → ((x : X) → P x → P (r x)) → (xs : List X) → Each P xs → Each P (map r xs)
each_mapped P r f [] a = tt
each_mapped P r f (x ∷ xs) a = (f x a.0, each_mapped P r f xs a.1)

each_replicated : {X : Type 0} (P : X → Type 0) (n : ℕ) (x : X) → P x → Each P (replicate n x)
each_replicated P zero x h = tt
each_replicated P (suc n) x h = (h, each_replicated P n x h)

pub each_set : {X : Type 0} (P : X → Type 0) (xs : List X) (i : ℕ) (x : X) → P x → Each P xs → Each P (set xs i x)
each_set P [] i x h a = tt
each_set P (y ∷ ys) zero x h a = (h, a.1)
each_set P (y ∷ ys) (suc i) x h a = (a.0, each_set P ys i x h a.1)

pub each_get : {X : Type 0} (P : X → Type 0) (xs : List X) (i : ℕ) (d : X) → P d → Each P xs → P (get_or xs i d)
each_get P [] i d h a = h
each_get P (y ∷ ys) zero d h a = a.0
each_get P (y ∷ ys) (suc i) d h a = each_get P ys i d h a.1

-- values

context_fits : (b : Bool) (a : ℕ) → a ≤ 32 → IsBounded (if b then Ctx a else Word)
context_fits true a h = h
context_fits false a h = tt

stack_fits : (b : Bool) (a : ℕ) → a ≤ 512 → IsBounded (if b then Stack a else Word)
stack_fits true a h = h
stack_fits false a h = tt

hull_fits : (m : ℕ) (x y : Span) → IsSpan m x → IsSpan m y → IsSpan m (hull x y)
hull_fits m x y p q = record { ordered = omega (arith, p.ordered, q.ordered); most = omega (arith, p.most, q.most) }

pub join_fits : (k l : Kind) → IsBounded k → IsBounded l → IsBounded (join k l)
unfolding join
join_fits (Num x) (Num y) h g = limits.hull_fits x y h g
join_fits (Ctx a) (Ctx b) h g = context_fits (a == b) a h
join_fits (Stack a) (Stack b) h g = stack_fits (a == b) a h
join_fits (Sector x) (Sector y) h g = hull_fits 65535 x y h g
join_fits SectorOrNull SectorOrNull h g = tt
join_fits Word Unset h g = tt
join_fits _ _ h g = tt

pub round_fits : (k : Kind) → IsBounded k → IsBounded (round k)
unfolding round
round_fits Unset h = tt
round_fits Word h = tt
round_fits (Num x) h = limits_rounded_fits x h
round_fits (Ctx a) h = h
round_fits (Stack a) h = h
round_fits (Sector x) h = rounded_fits 16 x (omega arith) h
round_fits SectorOrNull h = tt

round_known : (k : Kind) → IsTrue (not (is_unknown k)) → IsTrue (not (is_unknown (round k)))
unfolding round
round_known Unset t = t
round_known Word t = t
round_known (Num x) t = t
round_known (Ctx a) t = t
round_known (Stack a) t = t
round_known (Sector x) t = t
round_known SectorOrNull t = t

-- groups

kept_fits : (k : Kind) → IsBounded k → IsGroup (group_kept k)
kept_fits Unset h = refl
kept_fits Word h = refl
kept_fits (Num x) h = (refl, h)
kept_fits (Ctx a) h = (refl, h)
kept_fits (Stack a) h = (refl, h)
kept_fits (Sector x) h = (refl, h)
kept_fits SectorOrNull h = (refl, tt)

met_fits : (marks : List Bool) (k : Kind) → length marks ≡ 8 → IsGroup (Marked (marks_at_join marks k))
met_fits marks (Num x) e = e
met_fits marks Unset e = refl
met_fits marks Word e = refl
met_fits marks (Ctx a) e = refl
met_fits marks (Stack a) e = refl
met_fits marks (Sector x) e = refl
met_fits marks SectorOrNull e = refl

join_group_fits : (g h : GroupKind) → IsGroup g → IsGroup h → IsGroup (join_group g h)
unfolding join_group
join_group_fits (Marked xs) (Marked ys) a b = length_zip (λ x y. x && y) xs ys (a ∙ sym b) ∙ a
join_group_fits (Marked xs) (Spilled l) a b = met_fits xs l a
join_group_fits (Spilled k) (Marked ys) a b = met_fits ys k b
join_group_fits (Spilled k) (Spilled l) a b = kept_fits (join k l) (join_fits k l a.1 b.1)

pub round_group_fits : (g : GroupKind) → IsGroup g → IsGroup (round_group g)
unfolding round_group
round_group_fits (Marked xs) a = a
round_group_fits (Spilled k) a = (round_known k a.0, round_fits k a.1)

-- states

pub start_fits : IsState start
unfolding start unset_groups
start_fits = record {
  values = (tt, (omega arith, (tt, (tt, (tt, (tt, (tt, (tt, (tt, (tt, (omega arith, tt)))))))))));
  groups = each_replicated IsGroup 64 (Marked unset_marks) refl;
  registers = refl;
  stack = refl;
}

pub start_rounded : round_state start ≡ start
unfolding round_state start unset_groups round round_group
start_rounded = refl

pub join_state_fits : (s t : Abstract) → IsState s → IsState t → IsState (join_state s t)
unfolding join_state
join_state_fits s t a b = record {
  values = each_zip IsBounded join join_fits s.values t.values a.values b.values;
  groups = each_zip IsGroup join_group join_group_fits s.groups t.groups a.groups b.groups;
  registers = length_zip join s.values t.values (a.registers ∙ sym b.registers) ∙ a.registers;
  stack = length_zip join_group s.groups t.groups (a.stack ∙ sym b.stack) ∙ a.stack;
}

pub round_state_fits : (s : Abstract) → IsState s → IsState (round_state s)
unfolding round_state
round_state_fits s a = record {
  values = each_mapped IsBounded round round_fits s.values a.values;
  groups = each_mapped IsGroup round_group round_group_fits s.groups a.groups;
  registers = length-map s.values round ∙ a.registers;
  stack = length-map s.groups round_group ∙ a.stack;
}
