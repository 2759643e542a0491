-- A smaller state breaks no rule that a larger one keeps.
use Rattle.std.proofs.Common.{◌≡◌, ℕ, zero, suc, ◌+◌, ◌-◌, ◌/◌, ◌%◌, ◌≤◌, ◌==◌, nat_le, not, ◌&&◌, ◌||◌, Bool, true, false, if◌then◌else◌, List, [], ◌∷◌, get_or, replicate, is_some, Option, None, Some, ℤ, pos, negsuc, ◌+ℤ◌, ◌≤ℤ◌, refl, inl, inr, arith}
use Rattle.std.specs.Option.{option_map_or}
use Rattle.std.specs.Int.{cast_unsigned, w32}
use Rattle.std.proofs.lemmas.Int.{ints}
use Rattle.std.proofs.lemmas.Bool.Decides.{nat_tests, eqb_tells}
use Rattle.base.specs.Check.{check, first_failing}
use Rattle.base.specs.declared.causes.VerifierCause.TheVariants as cause
use Rattle.bpf_isa.specs.declared.instr.Instr.TheVariants as instr
use Rattle.bpf_isa.specs.declared.instr.Source.{Source}
use Rattle.bpf_isa.specs.declared.instr.Source.TheVariants as source
use Rattle.bpf_isa.specs.declared.instr.Width.{Width}
use Rattle.bpf_isa.specs.declared.instr.Width.TheVariants as width
use Rattle.bpf_isa.specs.declared.instr.Operator.{Operator}
use Rattle.bpf_isa.specs.declared.instr.Operator.TheVariants as op
use Rattle.bpf_isa.specs.declared.instr.Condition.{Condition}
use Rattle.bpf_isa.specs.Spelling.{IsInRange}
use Rattle.helpers.specs.declared.helper.Helper.{Helper}
use Rattle.helpers.specs.declared.helper.Helper.TheVariants as helper
use Rattle.helpers.specs.Helper.{helper_of}
use Rattle.helpers.specs.Queries.{query_arguments}
use Rattle.machine.specs.Memory.{byte_count, plain_size}
use Rattle.machine.specs.Step.{source_registers, operands}
use Rattle.ranges.specs.declared.place.AccessPlace.{AccessPlace}
use Rattle.ranges.specs.declared.place.AccessPlace.TheVariants as place
use Rattle.ranges.specs.declared.place.ByteMark.TheVariants as mark
use Rattle.ranges.specs.Kinds.{Kind, Unset, Word, Num, Ctx, Stack, Sector, is_number, is_unknown}
use Rattle.ranges.specs.Groups.{GroupKind, Marked, Spilled, unset_marks}
use Rattle.ranges.specs.States.{Abstract}
use Rattle.ranges.specs.Pointers.{offset_in, moved_pointer}
use Rattle.machine.specs.OwnMemory.{memory_start, memory_size}
use Rattle.ranges.specs.Places.{in_own, is_own_memory, landing, place_of, is_inside, mark_in, mark_at, is_mark, none_is}
use Rattle.ranges.specs.Reading.{value, second, are_set, is_stack, is_base, has_length}
use Rattle.ranges.specs.Rules.{may_compute, is_null_test, compares, has_no, is_whole, load_rules, store_rules, length_of, are_numbers, call_rules, rules_with}
use Rattle.ranges.specs.Order.{Under, MarksUnder, GroupUnder, EachUnder, StateUnder, IsBounded, IsState}
use Rattle.ranges.specs.Laws.{RulesAreMonotone}
use Rattle.ranges.proofs.Keeping.{value_fits, second_fits}
use Rattle.ranges.proofs.Smaller.{and_left, and_right, each_at, value_under, second_under, test_under}
use Rattle.ranges.proofs.SmallerMoves.{Met, moved_met}

-- tests, one of which passes where the other does

or_mono : (a b c d : Bool) → (c ≡ true → a ≡ true) → (d ≡ true → b ≡ true) → (c || d) ≡ true → (a || b) ≡ true
or_mono true b c d f g e = refl
or_mono false b true d f g e = absurd (let bad : false ≡ true = f refl in cc)
or_mono false b false d f g e = g e

pub and_mono : (a b c d : Bool) → (c ≡ true → a ≡ true) → (d ≡ true → b ≡ true) → (c && d) ≡ true → (a && b) ≡ true
and_mono a b true d f g e = rw (f refl) (g e)
and_mono a b false d f g e = absurd (let bad : false ≡ true = e in cc)

-- checks, those of a list after those before it

pub two_pass : {C : Type 0} (c d : C) (x y a b : Bool) → (a ≡ true → x ≡ true) → (a ≡ true → b ≡ true → y ≡ true)
    → first_failing (check c a ∷ check d b ∷ []) ≡ None → first_failing (check c x ∷ check d y ∷ []) ≡ None
two_pass c d x y false b f g e = absurd (let bad : Some c ≡ None = e in cc)
two_pass c d x y true false f g e = absurd (let bad : Some d ≡ None = e in cc)
two_pass c d x y true true f g e = rw (f refl, g refl refl) refl

three_pass : {C : Type 0} (c d i : C) (x y z a b n : Bool) → (a ≡ true → x ≡ true) → (b ≡ true → y ≡ true) → (b ≡ true → n ≡ true → z ≡ true)
    → first_failing (check c a ∷ check d b ∷ check i n ∷ []) ≡ None → first_failing (check c x ∷ check d y ∷ check i z ∷ []) ≡ None
three_pass c d i x y z false b n f g h e = absurd (let bad : Some c ≡ None = e in cc)
three_pass c d i x y z true false n f g h e = absurd (let bad : Some d ≡ None = e in cc)
three_pass c d i x y z true true false f g h e = absurd (let bad : Some i ≡ None = e in cc)
three_pass c d i x y z true true true f g h e = rw (f refl, g refl, h refl refl) refl

four_pass : {C : Type 0} (c d i j : C) (x y z u a b n m : Bool) → (a ≡ true → x ≡ true) → (b ≡ true → y ≡ true) → (b ≡ true → n ≡ true → z ≡ true)
    → (b ≡ true → n ≡ true → m ≡ true → u ≡ true)
    → first_failing (check c a ∷ check d b ∷ check i n ∷ check j m ∷ []) ≡ None → first_failing (check c x ∷ check d y ∷ check i z ∷ check j u ∷ []) ≡ None
four_pass c d i j x y z u false b n m f g h k e = absurd (let bad : Some c ≡ None = e in cc)
four_pass c d i j x y z u true false n m f g h k e = absurd (let bad : Some d ≡ None = e in cc)
four_pass c d i j x y z u true true false m f g h k e = absurd (let bad : Some i ≡ None = e in cc)
four_pass c d i j x y z u true true true false f g h k e = absurd (let bad : Some j ≡ None = e in cc)
four_pass c d i j x y z u true true true true f g h k e = rw (f refl, g refl, h refl refl, k refl refl refl) refl

five_pass : {C : Type 0} (c d i j o : C) (x y z u v a b n m l : Bool) → (a ≡ true → x ≡ true) → (b ≡ true → y ≡ true) → (n ≡ true → z ≡ true)
    → (m ≡ true → u ≡ true) → (m ≡ true → l ≡ true → v ≡ true)
    → first_failing (check c a ∷ check d b ∷ check i n ∷ check j m ∷ check o l ∷ []) ≡ None
    → first_failing (check c x ∷ check d y ∷ check i z ∷ check j u ∷ check o v ∷ []) ≡ None
five_pass c d i j o x y z u v false b n m l f g h k p e = absurd (let bad : Some c ≡ None = e in cc)
five_pass c d i j o x y z u v true false n m l f g h k p e = absurd (let bad : Some d ≡ None = e in cc)
five_pass c d i j o x y z u v true true false m l f g h k p e = absurd (let bad : Some i ≡ None = e in cc)
five_pass c d i j o x y z u v true true true false l f g h k p e = absurd (let bad : Some j ≡ None = e in cc)
five_pass c d i j o x y z u v true true true true false f g h k p e = absurd (let bad : Some o ≡ None = e in cc)
five_pass c d i j o x y z u v true true true true true f g h k p e = rw (f refl, g refl, h refl, k refl, p refl refl) refl

-- values

pub known_under : (k l : Kind) → Under k l → not (is_unknown l) ≡ true → not (is_unknown k) ≡ true
known_under k Unset u e = absurd (let bad : false ≡ true = e in cc)
known_under k Word u e = absurd (let bad : false ≡ true = e in cc)
known_under Unset l u e = absurd u
known_under Word l u e = absurd u
known_under k l u e = refl

pub number_under : (k l : Kind) → Under k l → is_number l ≡ true → is_number k ≡ true
number_under (Num x) l u e = refl
number_under k (Num y) u e = absurd u
number_under k l u e = absurd (let bad : false ≡ true = e in cc)

pub stack_under : (k l : Kind) → Under k l → is_stack l ≡ true → is_stack k ≡ true
stack_under (Stack a) l u e = refl
stack_under k (Stack b) u e = absurd u
stack_under k l u e = absurd (let bad : false ≡ true = e in cc)

base_under : (k l : Kind) → Under k l → is_base l ≡ true → is_base k ≡ true
base_under (Ctx a) l u e = refl
base_under (Stack a) l u e = refl
base_under (Sector x) l u e = refl
base_under k (Ctx b) u e = absurd u
base_under k (Stack b) u e = absurd u
base_under k (Sector y) u e = absurd u
base_under k l u e = absurd (let bad : false ≡ true = e in cc)

pub are_set_under : (s t : Abstract) (rs : List ℕ) → StateUnder s t → are_set t rs ≡ true → are_set s rs ≡ true
are_set_under s t [] u e = refl
are_set_under s t (r ∷ rs) u e =
    and_mono (not (is_unknown (value s r))) (are_set s rs) (not (is_unknown (value t r))) (are_set t rs)
    (known_under (value s r) (value t r) (value_under s t r u)) (are_set_under s t rs u) e

same_numbers : (a b : ℕ) → (a == b) ≡ true → a ≡ b
same_numbers a b e = elim (eqb_tells a b) [ inl t ↦ t.1 | inr f ↦ absurd (let bad : true ≡ false = (let g : (a == b) ≡ false = f.0 in cc) in cc) ]

-- a length of helper 2 is the same constant in a smaller state
pub length_under : (k l : Kind) → IsBounded k → Under k l → has_length l ≡ true → (has_length k ≡ true) × (length_of k ≡ length_of l)
length_under (Num x) (Num y) h u e =
    let constant : y.unsigned.low ≡ y.unsigned.high = same_numbers y.unsigned.low y.unsigned.high (and_left (y.unsigned.low == y.unsigned.high) _ e) in
    let low : x.unsigned.low ≡ y.unsigned.low = omega (arith, constant, h.words.ordered, u.unsigned.from, u.unsigned.upto) in
    let high : x.unsigned.high ≡ y.unsigned.high = omega (arith, constant, h.words.ordered, u.unsigned.from, u.unsigned.upto) in
    (rw (low, high) e, low)
length_under k (Num y) h u e = absurd u
length_under k l h u e = absurd (let bad : false ≡ true = e in cc)

-- places

some_offset : (limit : ℕ) (z : ℤ) → is_some (offset_in limit z) ≡ true → (pos 0 ≤ℤ z) × (z ≤ℤ pos limit)
some_offset limit (negsuc n) e = absurd (let bad : false ≡ true = e in cc)
some_offset limit (pos n) e = by_test (nat_le n limit) refl e
  where
    by_test : (b : Bool) → nat_le n limit ≡ b → is_some (if b then Some n else None) ≡ true → (pos 0 ≤ℤ pos n) × (pos n ≤ℤ pos limit)
    by_test true t e = let small : n ≤ limit = grind (arith, nat_tests) in (omega (arith, ints), omega (arith, ints, small))
    by_test false t e = absurd (let bad : false ≡ true = e in cc)

offset_some : (limit : ℕ) (z : ℤ) → pos 0 ≤ℤ z → z ≤ℤ pos limit → is_some (offset_in limit z) ≡ true
offset_some limit (negsuc n) a b = absurd (omega (arith, ints, a))
offset_some limit (pos n) a b =
    let small : n ≤ limit = omega (arith, ints, b) in
    let t : nat_le n limit ≡ true = grind (arith, nat_tests) in
    rw t refl

-- an offset between two that fall in a region falls there
landed_between : (size n a b o : ℕ) (d : ℤ) → a ≤ o → o ≤ b → is_some (landing size n a d) ≡ true → is_some (landing size n b d) ≡ true → is_some (landing size n o d) ≡ true
landed_between size n a b o d p q e f = by_size (nat_le n size) e f
  where
    by_size : (c : Bool) → is_some (if c then offset_in (size - n) (pos a +ℤ d) else None) ≡ true → is_some (if c then offset_in (size - n) (pos b +ℤ d) else None) ≡ true
        → is_some (if c then offset_in (size - n) (pos o +ℤ d) else None) ≡ true
    by_size true e f =
        let first = some_offset (size - n) (pos a +ℤ d) e in
        let other = some_offset (size - n) (pos b +ℤ d) f in
        offset_some (size - n) (pos o +ℤ d) (omega (arith, ints, p, q, first.0)) (omega (arith, ints, p, q, other.1))
    by_size false e f = absurd (let bad : false ≡ true = e in cc)

-- a smaller base leads to the same place, where that of the larger is one
pub place_under : (k l : Kind) (d : ℤ) (n : ℕ) → IsBounded k → Under k l → is_inside (place_of l d n) ≡ true → place_of k d n ≡ place_of l d n
unfolding place_of
place_under (Ctx a) (Ctx b) d n h u e = rw u refl
place_under (Stack a) (Stack b) d n h u e = rw u refl
place_under (Sector x) (Sector y) d n h u e = by_both (is_some (landing 512 n y.low d)) (is_some (landing 512 n y.high d)) refl refl e
  where
    by_both : (a b : Bool) → is_some (landing 512 n y.low d) ≡ a → is_some (landing 512 n y.high d) ≡ b → is_inside (if a && b then place.Sector else place.Outside) ≡ true
        → (if is_some (landing 512 n x.low d) && is_some (landing 512 n x.high d) then place.Sector else place.Outside) ≡ (if a && b then place.Sector else place.Outside)
    by_both true true p q e =
        let low : is_some (landing 512 n x.low d) ≡ true = landed_between 512 n y.low y.high x.low d (u.from) (omega (arith, h.ordered, u.upto)) p q in
        let high : is_some (landing 512 n x.high d) ≡ true = landed_between 512 n y.low y.high x.high d (omega (arith, h.ordered, u.from)) (u.upto) p q in
        rw (low, high) refl
    by_both true false p q e = absurd (let bad : false ≡ true = e in cc)
    by_both false b p q e = absurd (let bad : false ≡ true = e in cc)
place_under k (Ctx b) d n h u e = absurd u
place_under k (Stack b) d n h u e = absurd u
place_under k (Sector y) d n h u e = absurd u
place_under k l d n h u e = absurd (let bad : false ≡ true = e in cc)

-- bytes

marks_at : (xs ys : List Bool) (k : ℕ) → MarksUnder xs ys → get_or ys k false ≡ true → get_or xs k false ≡ true
marks_at [] [] k u e = e
marks_at [] (y ∷ ys) k u e = absurd u
marks_at (x ∷ xs) [] k u e = absurd u
marks_at (x ∷ xs) (y ∷ ys) zero u e = u.0 e
marks_at (x ∷ xs) (y ∷ ys) (suc k) u e = marks_at xs ys k u.1 e

marked_set : (b : Bool) → not (is_mark (if b then mark.Written else mark.Unset) mark.Unset) ≡ true → b ≡ true
marked_set true e = refl
marked_set false e = e

marked_no_pointer : (b : Bool) → not (is_mark (if b then mark.Written else mark.Unset) mark.Pointer) ≡ true
marked_no_pointer true = refl
marked_no_pointer false = refl

spilled_set : (b : Bool) → not (is_mark (if b then mark.Written else mark.Pointer) mark.Unset) ≡ true
spilled_set true = refl
spilled_set false = refl

spilled_number : (b : Bool) → not (is_mark (if b then mark.Written else mark.Pointer) mark.Pointer) ≡ true → b ≡ true
spilled_number true e = refl
spilled_number false e = e

no_mark : (n i : ℕ) → get_or (replicate n false) i false ≡ false
no_mark zero i = refl
no_mark (suc n) zero = refl
no_mark (suc n) (suc i) = no_mark n i

-- among unset marks no byte is set
pub none_set : (ys : List Bool) (i : ℕ) → ys ≡ unset_marks → not (is_mark (mark_in (Marked ys) i) mark.Unset) ≡ true → ⊥
none_set ys i e h =
    let there : get_or ys i false ≡ true = marked_set (get_or ys i false) h in
    let none : get_or ys i false ≡ false = rw e (no_mark 8 i) in
    cc

pub byte_set : (g h : GroupKind) (i : ℕ) → GroupUnder g h → not (is_mark (mark_in h i) mark.Unset) ≡ true → not (is_mark (mark_in g i) mark.Unset) ≡ true
byte_set (Marked xs) (Marked ys) i u e = rw (marks_at xs ys i u (marked_set (get_or ys i false) e)) refl
byte_set (Marked xs) (Spilled l) i u e = absurd u
byte_set (Spilled k) h i u e = spilled_set (is_number k)

byte_no_pointer : (g h : GroupKind) (i : ℕ) → GroupUnder g h → not (is_mark (mark_in h i) mark.Unset) ≡ true → not (is_mark (mark_in h i) mark.Pointer) ≡ true
    → not (is_mark (mark_in g i) mark.Pointer) ≡ true
byte_no_pointer (Marked xs) h i u e f = marked_no_pointer (get_or xs i false)
byte_no_pointer (Spilled k) (Marked ys) i u e f = elim u [ inl n ↦ rw n refl | inr unset ↦ absurd (none_set ys i unset e) ]
byte_no_pointer (Spilled k) (Spilled l) i u e f = rw (number_under k l u (spilled_number (is_number l) f)) refl

at_group : (gs hs : List GroupKind) (at : ℕ) → EachUnder GroupUnder gs hs → GroupUnder (get_or gs (at / 8) (Marked [])) (get_or hs (at / 8) (Marked []))
at_group gs hs at u = each_at GroupUnder gs hs (at / 8) (Marked []) tt u

pub none_unset : (gs hs : List GroupKind) (at n : ℕ) → EachUnder GroupUnder gs hs → none_is mark.Unset hs at n ≡ true → none_is mark.Unset gs at n ≡ true
unfolding none_is
none_unset gs hs at zero u e = refl
none_unset gs hs at (suc n) u e =
    and_mono (not (is_mark (mark_at gs at) mark.Unset)) (none_is mark.Unset gs (at + 1) n) (not (is_mark (mark_at hs at) mark.Unset)) (none_is mark.Unset hs (at + 1) n)
    (byte_set (get_or gs (at / 8) (Marked [])) (get_or hs (at / 8) (Marked [])) (at % 8) (at_group gs hs at u)) (none_unset gs hs (at + 1) n u) e

pub none_pointer : (gs hs : List GroupKind) (at n : ℕ) → EachUnder GroupUnder gs hs → none_is mark.Unset hs at n ≡ true → none_is mark.Pointer hs at n ≡ true
    → none_is mark.Pointer gs at n ≡ true
unfolding none_is
none_pointer gs hs at zero u e f = refl
none_pointer gs hs at (suc n) u e f =
    let set : not (is_mark (mark_at hs at) mark.Unset) ≡ true = and_left (not (is_mark (mark_at hs at) mark.Unset)) (none_is mark.Unset hs (at + 1) n) e in
    let rest : none_is mark.Unset hs (at + 1) n ≡ true = and_right (not (is_mark (mark_at hs at) mark.Unset)) (none_is mark.Unset hs (at + 1) n) e in
    and_mono (not (is_mark (mark_at gs at) mark.Pointer)) (none_is mark.Pointer gs (at + 1) n) (not (is_mark (mark_at hs at) mark.Pointer)) (none_is mark.Pointer hs (at + 1) n)
    (byte_no_pointer (get_or gs (at / 8) (Marked [])) (get_or hs (at / 8) (Marked [])) (at % 8) (at_group gs hs at u) set) (none_pointer gs hs (at + 1) n u rest) f

no_unset_under : (gs hs : List GroupKind) (p : AccessPlace) (n : ℕ) → EachUnder GroupUnder gs hs → has_no mark.Unset hs p n ≡ true → has_no mark.Unset gs p n ≡ true
no_unset_under gs hs (place.Stack at) n u e = none_unset gs hs at n u e
no_unset_under gs hs p n u e = refl

no_pointer_under : (gs hs : List GroupKind) (p : AccessPlace) (n : ℕ) → EachUnder GroupUnder gs hs → has_no mark.Unset hs p n ≡ true → has_no mark.Pointer hs p n ≡ true
    → has_no mark.Pointer gs p n ≡ true
no_pointer_under gs hs (place.Stack at) n u e f = none_pointer gs hs at n u e f
no_pointer_under gs hs p n u e f = refl

-- the rules of each form

load_keeps : (s t : Abstract) (base : ℕ) (d : ℤ) (n : ℕ) → IsState s → StateUnder s t → first_failing (load_rules false t base d n) ≡ None → first_failing (load_rules false s base d n) ≡ None
unfolding load_rules
load_keeps s t base d n a u e =
    let same : is_inside (place_of (value t base) d n) ≡ true → place_of (value s base) d n ≡ place_of (value t base) d n =
    place_under (value s base) (value t base) d n (value_fits s base a) (value_under s t base u) in
    four_pass cause.UnsetRegister cause.OutsideRegion cause.UnsetByte cause.PointerAsNumber
    (are_set s (base ∷ [])) (is_inside (place_of (value s base) d n)) (has_no mark.Unset s.groups (place_of (value s base) d n) n)
    (is_whole (place_of (value s base) d n) n || has_no mark.Pointer s.groups (place_of (value s base) d n) n)
    (are_set t (base ∷ [])) (is_inside (place_of (value t base) d n)) (has_no mark.Unset t.groups (place_of (value t base) d n) n)
    (is_whole (place_of (value t base) d n) n || has_no mark.Pointer t.groups (place_of (value t base) d n) n)
    (are_set_under s t (base ∷ []) u)
    (λ inside. rw (same inside) inside)
    (λ inside set. rw (same inside) (no_unset_under s.groups t.groups (place_of (value t base) d n) n u.groups set))
    (λ inside set either. rw (same inside)
    (or_mono (is_whole (place_of (value t base) d n) n) (has_no mark.Pointer s.groups (place_of (value t base) d n) n)
    (is_whole (place_of (value t base) d n) n) (has_no mark.Pointer t.groups (place_of (value t base) d n) n)
    (λ whole. whole) (no_pointer_under s.groups t.groups (place_of (value t base) d n) n u.groups set) either))
    e

store_keeps : (s t : Abstract) (b c : Bool) (k l : Kind) (base : ℕ) (d : ℤ) (n : ℕ) → IsState s → StateUnder s t → (c ≡ true → b ≡ true) → Under k l
    → first_failing (store_rules false t c l base d n) ≡ None → first_failing (store_rules false s b k base d n) ≡ None
unfolding store_rules
store_keeps s t b c k l base d n a u set v e =
    let same : is_inside (place_of (value t base) d n) ≡ true → place_of (value s base) d n ≡ place_of (value t base) d n =
    place_under (value s base) (value t base) d n (value_fits s base a) (value_under s t base u) in
    five_pass cause.UnsetRegister cause.OutsideRegion cause.ReadOnly cause.OutsideRegion cause.PointerAsNumber
    b (is_base (value s base)) (is_stack (value s base)) (is_inside (place_of (value s base) d n)) (is_number k || is_whole (place_of (value s base) d n) n)
    c (is_base (value t base)) (is_stack (value t base)) (is_inside (place_of (value t base) d n)) (is_number l || is_whole (place_of (value t base) d n) n)
    set (base_under (value s base) (value t base) (value_under s t base u)) (stack_under (value s base) (value t base) (value_under s t base u))
    (λ inside. rw (same inside) inside)
    (λ inside either. rw (same inside)
    (or_mono (is_number k) (is_whole (place_of (value t base) d n) n) (is_number l) (is_whole (place_of (value t base) d n) n)
    (number_under k l v) (λ whole. whole) either))
    e

are_numbers_under : (s t : Abstract) (rs : List ℕ) → StateUnder s t → are_numbers t rs ≡ true → are_numbers s rs ≡ true
are_numbers_under s t [] u e = refl
are_numbers_under s t (r ∷ rs) u e =
    and_mono (is_number (value s r)) (are_numbers s rs) (is_number (value t r)) (are_numbers t rs)
    (number_under (value s r) (value t r) (value_under s t r u)) (are_numbers_under s t rs u) e

some_numbers : (s t : Abstract) (rs : List ℕ) → StateUnder s t
    → first_failing (check cause.UnsetRegister (are_set t rs) ∷ check cause.HelperArgument (are_numbers t rs) ∷ []) ≡ None
    → first_failing (check cause.UnsetRegister (are_set s rs) ∷ check cause.HelperArgument (are_numbers s rs) ∷ []) ≡ None
some_numbers s t rs u e =
    two_pass cause.UnsetRegister cause.HelperArgument (are_set s rs) (are_numbers s rs) (are_set t rs) (are_numbers t rs)
    (are_set_under s t rs u) (λ _. are_numbers_under s t rs u) e

-- the memory that a program with guards has of its own

in_own_between : (n a b o : ℕ) (d : ℤ) → a ≤ o → o ≤ b → in_own a d n ≡ true → in_own b d n ≡ true → in_own o d n ≡ true
in_own_between n a b o d p q e f =
    let start : nat_le memory_start a ≡ true = and_left (nat_le memory_start a) (is_some (landing memory_size n (a - memory_start) d)) e in
    let first : is_some (landing memory_size n (a - memory_start) d) ≡ true = and_right (nat_le memory_start a) (is_some (landing memory_size n (a - memory_start) d)) e in
    let last : is_some (landing memory_size n (b - memory_start) d) ≡ true = and_right (nat_le memory_start b) (is_some (landing memory_size n (b - memory_start) d)) f in
    let here : nat_le memory_start o ≡ true = grind (arith, nat_tests) in
    let there : is_some (landing memory_size n (o - memory_start) d) ≡ true =
    landed_between memory_size n (a - memory_start) (b - memory_start) (o - memory_start) d (omega (arith, p)) (omega (arith, q)) first last in
    rw (here, there) refl

pub own_under : (k l : Kind) (d : ℤ) (n : ℕ) → IsBounded k → Under k l → is_own_memory l d n ≡ true → is_own_memory k d n ≡ true
own_under (Num x) (Num y) d n h u e =
    let first : in_own y.unsigned.low d n ≡ true = and_left (in_own y.unsigned.low d n) (in_own y.unsigned.high d n) e in
    let last : in_own y.unsigned.high d n ≡ true = and_right (in_own y.unsigned.low d n) (in_own y.unsigned.high d n) e in
    let low : in_own x.unsigned.low d n ≡ true =
    in_own_between n y.unsigned.low y.unsigned.high x.unsigned.low d u.unsigned.from (omega (arith, h.words.ordered, u.unsigned.upto)) first last in
    let high : in_own x.unsigned.high d n ≡ true =
    in_own_between n y.unsigned.low y.unsigned.high x.unsigned.high d (omega (arith, h.words.ordered, u.unsigned.from)) u.unsigned.upto first last in
    rw (low, high) refl
own_under k (Num y) d n h u e = absurd u
own_under k l d n h u e = absurd (let bad : false ≡ true = e in cc)

pub own_outside : (k : Kind) (d : ℤ) (n : ℕ) → is_own_memory k d n ≡ true → place_of k d n ≡ place.Outside
unfolding place_of
own_outside (Num x) d n e = refl
own_outside k d n e = absurd (let bad : false ≡ true = e in cc)

call_keeps : (s t : Abstract) (h : Helper) → IsState s → StateUnder s t → first_failing (call_rules false t h) ≡ None → first_failing (call_rules false s h) ≡ None
unfolding call_rules
call_keeps s t helper.Copy a u e =
    three_pass cause.UnsetRegister cause.HelperArgument cause.OutsideRegion
    (are_set s (1 ∷ 2 ∷ 3 ∷ [])) (is_number (value s 1) && (is_stack (value s 2) && has_length (value s 3))) (is_inside (place_of (value s 2) (pos 0) (length_of (value s 3))))
    (are_set t (1 ∷ 2 ∷ 3 ∷ [])) (is_number (value t 1) && (is_stack (value t 2) && has_length (value t 3))) (is_inside (place_of (value t 2) (pos 0) (length_of (value t 3))))
    (are_set_under s t (1 ∷ 2 ∷ 3 ∷ []) u)
    (and_mono (is_number (value s 1)) (is_stack (value s 2) && has_length (value s 3)) (is_number (value t 1)) (is_stack (value t 2) && has_length (value t 3))
    (number_under (value s 1) (value t 1) (value_under s t 1 u))
    (and_mono (is_stack (value s 2)) (has_length (value s 3)) (is_stack (value t 2)) (has_length (value t 3))
    (stack_under (value s 2) (value t 2) (value_under s t 2 u))
    (λ long. (length_under (value s 3) (value t 3) (value_fits s 3 a) (value_under s t 3 u) long).0)))
    (λ arguments inside.
    let long : has_length (value t 3) ≡ true = and_right (is_stack (value t 2)) (has_length (value t 3)) (and_right (is_number (value t 1)) (is_stack (value t 2) && has_length (value t 3)) arguments) in
    let same : length_of (value s 3) ≡ length_of (value t 3) = (length_under (value s 3) (value t 3) (value_fits s 3 a) (value_under s t 3 u) long).1 in
    rw (same, place_under (value s 2) (value t 2) (pos 0) (length_of (value t 3)) (value_fits s 2 a) (value_under s t 2 u) inside) inside)
    e
call_keeps s t helper.Again a u e = some_numbers s t (1 ∷ []) u e
call_keeps s t helper.Report a u e = some_numbers s t (1 ∷ []) u e
call_keeps s t (helper.Query q) a u e = some_numbers s t (query_arguments q) u e

both_numbers : (k l m n : Kind) → Under k m → Under l n → (is_number m && is_number n) ≡ true → (is_number k && is_number l) ≡ true
both_numbers k l m n u v e = and_mono (is_number k) (is_number l) (is_number m) (is_number n) (number_under k m u) (number_under l n v) e

met_some : (m n : Option Kind) → Met m n → is_some n ≡ true → is_some m ≡ true
met_some (Some k) n h e = refl
met_some None None h e = e
met_some None (Some l) h e = absurd h

may_under : (w : Width) (o : Operator) (k l m n : Kind) → IsBounded k → IsBounded l → Under k m → Under l n → may_compute w o m n ≡ true → may_compute w o k l ≡ true
unfolding may_compute
may_under width.W64 op.Mov k l m n h g u v e = refl
may_under width.W32 op.Mov k l m n h g u v e = number_under l n v e
may_under width.W64 op.Add k l m n h g u v e =
    or_mono (is_number k && is_number l) (is_some (moved_pointer false k l)) (is_number m && is_number n) (is_some (moved_pointer false m n))
    (both_numbers k l m n u v) (met_some (moved_pointer false k l) (moved_pointer false m n) (moved_met false k l m n h g u v)) e
may_under width.W64 op.Sub k l m n h g u v e =
    or_mono (is_number k && is_number l) (is_some (moved_pointer true k l)) (is_number m && is_number n) (is_some (moved_pointer true m n))
    (both_numbers k l m n u v) (met_some (moved_pointer true k l) (moved_pointer true m n) (moved_met true k l m n h g u v)) e
may_under w o k l m n h g u v e = both_numbers k l m n u v e

compares_under : (s t : Abstract) (w : Width) (c : Condition) (dst : ℕ) (from : Source) → StateUnder s t → compares t w c dst from ≡ true → compares s w c dst from ≡ true
unfolding compares
compares_under s t w c dst from u e =
    or_mono (is_null_test w c from (value s dst)) (is_number (value s dst) && is_number (second s from)) (is_null_test w c from (value t dst)) (is_number (value t dst) && is_number (second t from))
    (test_under w c from (value s dst) (value t dst) (value_under s t dst u))
    (both_numbers (value s dst) (second s from) (value t dst) (second t from) (value_under s t dst u) (second_under s t from u)) e

one_number : (s t : Abstract) (r : ℕ) → StateUnder s t
    → first_failing (check cause.UnsetRegister (are_set t (r ∷ [])) ∷ check cause.PointerArithmetic (is_number (value t r)) ∷ []) ≡ None
    → first_failing (check cause.UnsetRegister (are_set s (r ∷ [])) ∷ check cause.PointerArithmetic (is_number (value s r)) ∷ []) ≡ None
one_number s t r u e =
    two_pass cause.UnsetRegister cause.PointerArithmetic (are_set s (r ∷ [])) (is_number (value s r)) (are_set t (r ∷ [])) (is_number (value t r))
    (are_set_under s t (r ∷ []) u) (λ _. number_under (value s r) (value t r) (value_under s t r u)) e

pub rules_mono : RulesAreMonotone
unfolding rules_with IsInRange
rules_mono s t (instr.Arithmetic w o dst from) r a b u e =
    two_pass cause.UnsetRegister cause.PointerArithmetic
    (are_set s (operands o dst from)) (may_compute w o (value s dst) (second s from)) (are_set t (operands o dst from)) (may_compute w o (value t dst) (second t from))
    (are_set_under s t (operands o dst from) u)
    (λ _. may_under w o (value s dst) (second s from) (value t dst) (second t from) (value_fits s dst a) (second_fits s from r.1 a) (value_under s t dst u) (second_under s t from u)) e
rules_mono s t (instr.Negate w dst) r a b u e = one_number s t dst u e
rules_mono s t (instr.SignExtend x dst src) r a b u e = one_number s t src u e
rules_mono s t (instr.ByteOrder o size dst) r a b u e = one_number s t dst u e
rules_mono s t (instr.Jump distance) r a b u e = refl
rules_mono s t (instr.LongJump distance) r a b u e = refl
rules_mono s t (instr.Branch w c dst from distance) r a b u e =
    two_pass cause.UnsetRegister cause.PointerAsNumber
    (are_set s (dst ∷ source_registers from)) (compares s w c dst from) (are_set t (dst ∷ source_registers from)) (compares t w c dst from)
    (are_set_under s t (dst ∷ source_registers from) u) (λ _. compares_under s t w c dst from u) e
rules_mono s t (instr.CallHelper number) r a b u e = by_helper (helper_of (cast_unsigned w32 number)) e
  where
    by_helper : (m : Option Helper) → first_failing (option_map_or (call_rules false t) m (check cause.UnknownHelper false ∷ [])) ≡ None
        → first_failing (option_map_or (call_rules false s) m (check cause.UnknownHelper false ∷ [])) ≡ None
    by_helper None e = e
    by_helper (Some h) e = call_keeps s t h a u e
rules_mono s t (instr.CallLocal distance) r a b u e = refl
rules_mono s t instr.Exit r a b u e =
    two_pass cause.UnsetRegister cause.PointerAsNumber (are_set s (0 ∷ [])) (is_number (value s 0)) (are_set t (0 ∷ [])) (is_number (value t 0))
    (are_set_under s t (0 ∷ []) u) (λ _. number_under (value s 0) (value t 0) (value_under s t 0 u)) e
rules_mono s t (instr.Load size dst base distance) r a b u e = load_keeps s t base distance (byte_count size) a u e
rules_mono s t (instr.LoadSigned size dst base distance) r a b u e = load_keeps s t base distance (byte_count (plain_size size)) a u e
rules_mono s t (instr.StoreImmediate size base distance n) r a b u e =
    store_keeps s t (are_set s (base ∷ [])) (are_set t (base ∷ [])) (second s (source.Immediate n)) (second t (source.Immediate n)) base distance (byte_count size) a u
    (are_set_under s t (base ∷ []) u) (second_under s t (source.Immediate n) u) e
rules_mono s t (instr.Store size base distance src) r a b u e =
    store_keeps s t (are_set s (base ∷ src ∷ [])) (are_set t (base ∷ src ∷ [])) (value s src) (value t src) base distance (byte_count size) a u
    (are_set_under s t (base ∷ src ∷ []) u) (value_under s t src u) e
rules_mono s t (instr.LoadImmediate dst x) r a b u e = refl
