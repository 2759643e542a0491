-- A smaller state passes smaller states on along the edges of a conditional jump.
use Rattle.std.proofs.Common.{◌≡◌, ℕ, zero, suc, ◌&&◌, ◌||◌, Bool, true, false, if◌then◌else◌, List, [], ◌∷◌, get_or, Option, None, Some, ℤ, refl, arith}
use Rattle.std.specs.Prelude.{set}
use Rattle.std.specs.Option.{option_map}
use Rattle.bpf_isa.specs.Spelling.{IsSourceInRange}
use Rattle.bpf_isa.specs.declared.instr.Instr.TheVariants as instr
use Rattle.bpf_isa.specs.declared.instr.Source.{Source}
use Rattle.bpf_isa.specs.declared.instr.Source.TheVariants as source
use Rattle.bpf_isa.specs.declared.instr.Width.{Width}
use Rattle.bpf_isa.specs.declared.instr.Condition.{Condition}
use Rattle.intervals.specs.Seen.{immediate_span}
use Rattle.intervals.specs.Spans.{only}
use Rattle.intervals.specs.Reducing.{Limits, LimitsWithin, any_sign}
use Rattle.intervals.specs.SignedEdges.{limits_refined}
use Rattle.intervals.specs.LimitLaws.{Related, BothWithin}
use Rattle.intervals.proofs.Outcomes.{refined_mono}
use Rattle.intervals.proofs.CallerLemmas.{within_self, words_are_limits}
use Rattle.ranges.specs.Kinds.{Kind, Unset, Word, Num, Ctx, Stack, Sector, SectorOrNull, is_number}
use Rattle.ranges.specs.States.{Abstract}
use Rattle.ranges.specs.Reading.{value, second, with_value, words}
use Rattle.ranges.specs.Rules.{compares, is_null_test, is_wide, is_equality, is_zero, may_be_null}
use Rattle.ranges.specs.Passing.{edge_of, with_both, tested_kind, is_equal_edge, edge_with}
use Rattle.ranges.specs.Order.{Under, EachUnder, StateUnder, IsState, EdgeUnder}
use Rattle.ranges.proofs.Keeping.{value_fits, second_fits, words_fit}

pub and_right : (a b : Bool) → (a && b) ≡ true → b ≡ true
and_right true b e = e
and_right false b e = absurd (let bad : false ≡ true = e in cc)

pub and_left : (a b : Bool) → (a && b) ≡ true → a ≡ true
and_left true b e = refl
and_left false b e = e

or_left_false : (a b : Bool) → (a || b) ≡ true → a ≡ false → b ≡ true
or_left_false true b e f = absurd (let bad : true ≡ false = f in cc)
or_left_false false b e f = e

-- lists, place by place

pub each_at : {X : Type 0} (R : X → X → Type 0) (xs ys : List X) (i : ℕ) (d : X) → R d d → EachUnder R xs ys → R (get_or xs i d) (get_or ys i d)
each_at R [] [] i d r p = r
each_at R [] (y ∷ ys) i d r p = absurd p
each_at R (x ∷ xs) [] i d r p = absurd p
each_at R (x ∷ xs) (y ∷ ys) zero d r p = p.0
each_at R (x ∷ xs) (y ∷ ys) (suc i) d r p = each_at R xs ys i d r p.1

pub each_with : {X : Type 0} (R : X → X → Type 0) (xs ys : List X) (i : ℕ) (x y : X) → R x y → EachUnder R xs ys → EachUnder R (set xs i x) (set ys i y)
each_with R [] [] i a b r p = tt
each_with R [] (y ∷ ys) i a b r p = absurd p
each_with R (x ∷ xs) [] i a b r p = absurd p
each_with R (x ∷ xs) (y ∷ ys) zero a b r p = (r, p.1)
each_with R (x ∷ xs) (y ∷ ys) (suc i) a b r p = (p.0, each_with R xs ys i a b r p.1)

pub value_under : (s t : Abstract) (r : ℕ) → StateUnder s t → Under (value s r) (value t r)
value_under s t r u = each_at Under s.values t.values r Unset tt u.values

pub with_value_under : (s t : Abstract) (r : ℕ) (k l : Kind) → Under k l → StateUnder s t → StateUnder (with_value s r k) (with_value t r l)
with_value_under s t r k l h u = record { values = each_with Under s.values t.values r k l h u.values; groups = u.groups }

pub second_under : (s t : Abstract) (from : Source) → StateUnder s t → Under (second s from) (second t from)
second_under s t (source.Immediate n) u = within_self (any_sign (immediate_span n))
second_under s t (source.Register r) u = value_under s t r u

-- values that a test tells apart

null_under : (k l : Kind) → Under k l → may_be_null l ≡ true → may_be_null k ≡ true
null_under SectorOrNull SectorOrNull u e = refl
null_under k SectorOrNull u e = absurd u
null_under k Unset u e = absurd (let bad : false ≡ true = e in cc)
null_under k Word u e = absurd (let bad : false ≡ true = e in cc)
null_under k (Num x) u e = absurd (let bad : false ≡ true = e in cc)
null_under k (Ctx x) u e = absurd (let bad : false ≡ true = e in cc)
null_under k (Stack x) u e = absurd (let bad : false ≡ true = e in cc)
null_under k (Sector x) u e = absurd (let bad : false ≡ true = e in cc)

pub test_under : (w : Width) (c : Condition) (from : Source) (k l : Kind) → Under k l → is_null_test w c from l ≡ true → is_null_test w c from k ≡ true
unfolding is_null_test
test_under w c from k l u e =
    let wide : is_wide w ≡ true = and_left (is_wide w) (is_equality c && (is_zero from && may_be_null l)) e in
    let e1 : (is_equality c && (is_zero from && may_be_null l)) ≡ true = and_right (is_wide w) (is_equality c && (is_zero from && may_be_null l)) e in
    let equality : is_equality c ≡ true = and_left (is_equality c) (is_zero from && may_be_null l) e1 in
    let e2 : (is_zero from && may_be_null l) ≡ true = and_right (is_equality c) (is_zero from && may_be_null l) e1 in
    let none : is_zero from ≡ true = and_left (is_zero from) (may_be_null l) e2 in
    let null : may_be_null k ≡ true = null_under k l u (and_right (is_zero from) (may_be_null l) e2) in
    rw (wide, equality, none, null) refl

and_false : (a : Bool) → (a && false) ≡ false
and_false true = refl
and_false false = refl

number_no_test : (w : Width) (c : Condition) (from : Source) (x : Limits) → is_null_test w c from (Num x) ≡ false
unfolding is_null_test
number_no_test w c from x = rw (and_false (is_zero from), and_false (is_equality c), and_false (is_wide w)) refl

pub words_under : (k l : Kind) → Under k l → is_number l ≡ true → LimitsWithin (words k) (words l)
words_under (Num x) (Num y) u e = u
words_under k (Num y) u e = absurd u
words_under k Unset u e = absurd (let bad : false ≡ true = e in cc)
words_under k Word u e = absurd (let bad : false ≡ true = e in cc)
words_under k (Ctx x) u e = absurd (let bad : false ≡ true = e in cc)
words_under k (Stack x) u e = absurd (let bad : false ≡ true = e in cc)
words_under k (Sector x) u e = absurd (let bad : false ≡ true = e in cc)
words_under k SectorOrNull u e = absurd (let bad : false ≡ true = e in cc)

smaller_no_test : (w : Width) (c : Condition) (from : Source) (k l : Kind) → Under k l → is_number l ≡ true → is_null_test w c from k ≡ false
smaller_no_test w c from (Num x) (Num y) u e = number_no_test w c from x
smaller_no_test w c from k (Num y) u e = absurd u
smaller_no_test w c from k Unset u e = absurd (let bad : false ≡ true = e in cc)
smaller_no_test w c from k Word u e = absurd (let bad : false ≡ true = e in cc)
smaller_no_test w c from k (Ctx x) u e = absurd (let bad : false ≡ true = e in cc)
smaller_no_test w c from k (Stack x) u e = absurd (let bad : false ≡ true = e in cc)
smaller_no_test w c from k (Sector x) u e = absurd (let bad : false ≡ true = e in cc)
smaller_no_test w c from k SectorOrNull u e = absurd (let bad : false ≡ true = e in cc)

-- edges

both_under : (s t : Abstract) (dst : ℕ) (from : Source) (m n : Option (Limits × Limits)) → Related BothWithin m n → StateUnder s t
    → EdgeUnder (option_map (with_both s dst from) m) (option_map (with_both t dst from) n)
both_under s t dst from None n h u = tt
both_under s t dst from (Some p) None h u = absurd h
both_under s t dst (source.Immediate i) (Some p) (Some q) h u = with_value_under s t dst (Num p.0) (Num q.0) h.0 u
both_under s t dst (source.Register r) (Some p) (Some q) h u =
    with_value_under (with_value s dst (Num p.0)) (with_value t dst (Num q.0)) r (Num p.1) (Num q.1) h.1 (with_value_under s t dst (Num p.0) (Num q.0) h.0 u)

tested_under : (b : Bool) → Under (tested_kind b) (tested_kind b)
tested_under true = within_self (any_sign (only 0))
tested_under false = record { from = omega arith; upto = omega arith }

pub edge_mono : (s t : Abstract) (w : Width) (c : Condition) (dst : ℕ) (from : Source) (distance : ℤ) (taken : Bool) → IsSourceInRange from → IsState s → IsState t
    → StateUnder s t → compares t w c dst from ≡ true
    → EdgeUnder (edge_of s (instr.Branch w c dst from distance) taken) (edge_of t (instr.Branch w c dst from distance) taken)
unfolding edge_with compares
edge_mono s t w c dst from distance taken r a b u ok = by_test (is_null_test w c from (value t dst)) refl
  where
    by_test : (x : Bool) → is_null_test w c from (value t dst) ≡ x
        → EdgeUnder
        (if is_null_test w c from (value s dst) then Some (with_value s dst (tested_kind (is_equal_edge c taken)))
        else option_map (with_both s dst from) (limits_refined (instr.Branch w c dst from distance) taken (words (value s dst)) (words (second s from))))
        (if x then Some (with_value t dst (tested_kind (is_equal_edge c taken)))
        else option_map (with_both t dst from) (limits_refined (instr.Branch w c dst from distance) taken (words (value t dst)) (words (second t from))))
    by_test true e =
        rw (test_under w c from (value s dst) (value t dst) (value_under s t dst u) e)
        (with_value_under s t dst (tested_kind (is_equal_edge c taken)) (tested_kind (is_equal_edge c taken)) (tested_under (is_equal_edge c taken)) u)
    by_test false e =
        let numbers : (is_number (value t dst) && is_number (second t from)) ≡ true = or_left_false (is_null_test w c from (value t dst)) (is_number (value t dst) && is_number (second t from)) ok e in
        let first : is_number (value t dst) ≡ true = and_left (is_number (value t dst)) (is_number (second t from)) numbers in
        let other : is_number (second t from) ≡ true = and_right (is_number (value t dst)) (is_number (second t from)) numbers in
        rw (smaller_no_test w c from (value s dst) (value t dst) (value_under s t dst u) first)
        (both_under s t dst from (limits_refined (instr.Branch w c dst from distance) taken (words (value s dst)) (words (second s from))) (limits_refined (instr.Branch w c dst from distance) taken (words (value t dst)) (words (second t from)))
        (refined_mono (instr.Branch w c dst from distance) taken (words (value s dst)) (words (second s from)) (words (value t dst)) (words (second t from))
        (words_are_limits (words (value s dst)) (words_fit (value s dst) (value_fits s dst a))) (words_are_limits (words (second s from)) (words_fit (second s from) (second_fits s from r a)))
        (words_are_limits (words (value t dst)) (words_fit (value t dst) (value_fits t dst b))) (words_are_limits (words (second t from)) (words_fit (second t from) (second_fits t from r b)))
        (words_under (value s dst) (value t dst) (value_under s t dst u) first) (words_under (second s from) (second t from) (second_under s t from u) other)) u)
