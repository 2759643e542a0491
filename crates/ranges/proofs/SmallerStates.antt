-- A smaller state is left with smaller states after an instruction, and passes smaller ones on.
use Rattle.std.proofs.Common.{◌≡◌, ℕ, zero, suc, ◌+◌, ◌-◌, ◌/◌, ◌%◌, ◌^◌, ◌<◌, not, ◌&&◌, ◌||◌, Bool, true, false, if◌then◌else◌, List, [], ◌∷◌, ◌++◌, get_or, is_some, Option, None, Some, ℤ, pos, refl, inl, inr, arith}
use Rattle.std.specs.Prelude.{set}
use Rattle.std.specs.Option.{option_map, option_map_or, option_or}
use Rattle.std.specs.Int.{cast_unsigned, w32}
use Rattle.base.specs.Check.{Check, check, first_failing}
use Rattle.base.specs.declared.causes.VerifierCause.TheVariants as cause
use Rattle.bpf_isa.specs.declared.instr.Instr.{Instr}
use Rattle.bpf_isa.specs.declared.instr.Instr.TheVariants as instr
use Rattle.bpf_isa.specs.declared.instr.Source.{Source}
use Rattle.bpf_isa.specs.declared.instr.Source.TheVariants as source
use Rattle.bpf_isa.specs.declared.instr.Width.{Width}
use Rattle.bpf_isa.specs.declared.instr.Width.TheVariants as width
use Rattle.bpf_isa.specs.declared.instr.Operator.{Operator}
use Rattle.bpf_isa.specs.declared.instr.Operator.TheVariants as op
use Rattle.bpf_isa.specs.declared.instr.Size.{Size}
use Rattle.bpf_isa.specs.Spelling.{IsInRange}
use Rattle.bpf_isa.specs.Slots.{target_slot}
use Rattle.helpers.specs.declared.helper.Helper.{Helper}
use Rattle.helpers.specs.declared.helper.Helper.TheVariants as helper
use Rattle.helpers.specs.Helper.{helper_of, summing_of}
use Rattle.machine.specs.Memory.{byte_count}
use Rattle.machine.specs.Step.{operands, source_registers}
use Rattle.intervals.specs.Spans.{span, IsSpan}
use Rattle.intervals.specs.Reducing.{Limits, LimitsWithin, IsLimits, any_sign}
use Rattle.intervals.specs.SignedResults.{limits_result_of}
use Rattle.intervals.specs.LimitLaws.{Related}
use Rattle.intervals.proofs.Outcomes.{any_holds}
use Rattle.intervals.proofs.CallerLemmas.{limits_monotone, words_are_limits}
use Rattle.ranges.specs.declared.place.AccessPlace.{AccessPlace}
use Rattle.ranges.specs.declared.place.AccessPlace.TheVariants as place
use Rattle.ranges.specs.declared.place.ByteMark.TheVariants as mark
use Rattle.ranges.specs.Kinds.{Kind, Unset, Num, is_number, is_unknown}
use Rattle.ranges.specs.Groups.{GroupKind, Marked, Spilled, map_places}
use Rattle.ranges.specs.States.{Abstract}
use Rattle.ranges.specs.Pointers.{moved_pointer}
use Rattle.ranges.specs.Places.{place_of, is_inside, mark_in, mark_at, is_mark, none_is, is_group}
use Rattle.ranges.specs.Reading.{value, second, with_value, with_groups, words, any_word, are_set, is_stack, is_base, has_length}
use Rattle.ranges.specs.Rules.{may_compute, compares, has_no, is_whole, load_rules, store_rules, length_of, call_rules, rules_with}
use Rattle.ranges.specs.Passing.{edge_of, argument_kind, entry_state, passed_state, passes, passed_with, edge_with}
use Rattle.ranges.specs.After.{number_result, result_kind, any_of, group_value, loaded_kind, is_among, mark_after, is_touched, marks_after, group_after, groups_after_write, written_at, stored_groups, answer_kind, after_answer, copied_state, call_after, load_after, store_after, after_of, after_with, call_with}
use Rattle.ranges.specs.Order.{Under, GroupUnder, EachUnder, StateUnder, IsBounded, IsGroup, Each, IsState, Holds, EdgeUnder, SentUnder}
use Rattle.ranges.specs.Laws.{AfterIsMonotone, PassesAreMonotone}
use Rattle.ranges.proofs.Chains.{under_self, group_self, each_self}
use Rattle.ranges.proofs.Fitting.{each_get}
use Rattle.ranges.proofs.Keeping.{value_fits, second_fits, words_fit, after_fits, edge_fits, entry_fits}
use Rattle.ranges.proofs.Smaller.{and_left, and_right, each_at, each_with, value_under, with_value_under, second_under, edge_mono}
use Rattle.ranges.proofs.SmallerMoves.{Met, moved_met}
use Rattle.ranges.proofs.SmallerRules.{known_under, number_under, length_under, place_under, none_set, byte_set}

-- what checks tell that pass

pub first_check : {C : Type 0} (c : C) (b : Bool) (rest : List (Check C)) → first_failing (check c b ∷ rest) ≡ None → (b ≡ true) × (first_failing rest ≡ None)
first_check c true rest e = (refl, e)
first_check c false rest e = absurd (let bad : Some c ≡ None = e in cc)

pub two_tell : {C : Type 0} (c d : C) (x y : Bool) → first_failing (check c x ∷ check d y ∷ []) ≡ None → (x ≡ true) × (y ≡ true)
two_tell c d x y e = let h = first_check c x (check d y ∷ []) e in (h.0, (first_check d y [] h.1).0)

pub three_tell : {C : Type 0} (c d a : C) (x y z : Bool) → first_failing (check c x ∷ check d y ∷ check a z ∷ []) ≡ None → (x ≡ true) × (y ≡ true) × (z ≡ true)
three_tell c d a x y z e =
    let h = first_check c x (check d y ∷ check a z ∷ []) e in
    let k = two_tell d a y z h.1 in (h.0, k.0, k.1)

-- the words of values

word_span : IsSpan (2 ^ 64 - 1) (span 0 (2 ^ 64 - 1))
word_span = record { ordered = omega arith; most = omega arith }

most_words : (x : Limits) → IsLimits x → LimitsWithin x any_word
most_words x h =
    let most = h.words.most in
    any_holds x (span 0 (2 ^ 64 - 1)) h word_span (record { from = omega arith; upto = omega (arith, most) })

pub words_within : (k l : Kind) → IsBounded k → Under k l → LimitsWithin (words k) (words l)
words_within (Num x) (Num y) h u = u
words_within k (Num y) h u = absurd u
words_within k l h u = most_words (words k) (words_fit k h)

-- results of arithmetic

map_related : (m n : Option Limits) → Related LimitsWithin m n → Related Under (option_map (λ x. Num x) m) (option_map (λ x. Num x) n)
map_related None n h = tt
map_related (Some x) None h = absurd h
map_related (Some x) (Some y) h = h

computed_mono : (i : Instr) (k l m n : Kind) → IsBounded k → IsBounded l → IsBounded m → IsBounded n → Under k m → Under l n → Related Under (number_result i k l) (number_result i m n)
computed_mono i k l m n fk fl fm fn u v =
    map_related (limits_result_of i (words k) (words l)) (limits_result_of i (words m) (words n))
    (limits_monotone i (words k) (words l) (words m) (words n)
    (words_are_limits (words k) (words_fit k fk)) (words_are_limits (words l) (words_fit l fl)) (words_are_limits (words m) (words_fit m fm)) (words_are_limits (words n) (words_fit n fn))
    (words_within k m fk u) (words_within l n fl v))

or_related : (k l m n : Option Kind) → Met k m → (m ≡ None → k ≡ None) → Related Under l n → Related Under (option_or k l) (option_or m n)
or_related None l None n h f r = r
or_related (Some x) l None n h f r = absurd (let bad : Some x ≡ None = f refl in cc)
or_related None l (Some y) n h f r = absurd h
or_related (Some x) l (Some y) n h f r = h

number_stays : (down : Bool) (k l : Kind) → is_number k ≡ true → moved_pointer down k l ≡ None
unfolding moved_pointer
number_stays down (Num x) l e = refl
number_stays down k l e = absurd (let bad : false ≡ true = e in cc)

nothing_there : (m : Option Kind) → m ≡ None → is_some m ≡ true → ⊥
nothing_there None e t = let bad : false ≡ true = t in cc
nothing_there (Some k) e t = let bad : Some k ≡ None = e in cc

-- where a larger pointer isn't moved, both operands are numbers, and so are smaller ones
no_move : (down : Bool) (k l m n : Kind) → Under k m → ((is_number m && is_number n) || is_some (moved_pointer down m n)) ≡ true → moved_pointer down m n ≡ None → moved_pointer down k l ≡ None
no_move down k l m n u e none = by_test (is_number m && is_number n) refl e
  where
    by_test : (b : Bool) → (is_number m && is_number n) ≡ b → (b || is_some (moved_pointer down m n)) ≡ true → moved_pointer down k l ≡ None
    by_test true t e = number_stays down k l (number_under k m u (and_left (is_number m) (is_number n) t))
    by_test false t e = absurd (nothing_there (moved_pointer down m n) none e)

result_mono : (w : Width) (o : Operator) (dst : ℕ) (from : Source) (k l m n : Kind) → IsBounded k → IsBounded l → IsBounded m → IsBounded n → Under k m → Under l n
    → may_compute w o m n ≡ true → Related Under (result_kind (instr.Arithmetic w o dst from) k l) (result_kind (instr.Arithmetic w o dst from) m n)
unfolding result_kind may_compute
result_mono width.W64 op.Mov dst from k l m n fk fl fm fn u v e = v
result_mono width.W64 op.Add dst from k l m n fk fl fm fn u v e =
    or_related (moved_pointer false k l) (number_result (instr.Arithmetic width.W64 op.Add dst from) k l) (moved_pointer false m n) (number_result (instr.Arithmetic width.W64 op.Add dst from) m n)
    (moved_met false k l m n fk fl u v) (no_move false k l m n u e) (computed_mono (instr.Arithmetic width.W64 op.Add dst from) k l m n fk fl fm fn u v)
result_mono width.W64 op.Sub dst from k l m n fk fl fm fn u v e =
    or_related (moved_pointer true k l) (number_result (instr.Arithmetic width.W64 op.Sub dst from) k l) (moved_pointer true m n) (number_result (instr.Arithmetic width.W64 op.Sub dst from) m n)
    (moved_met true k l m n fk fl u v) (no_move true k l m n u e) (computed_mono (instr.Arithmetic width.W64 op.Sub dst from) k l m n fk fl fm fn u v)
result_mono width.W64 o dst from k l m n fk fl fm fn u v e = computed_mono (instr.Arithmetic width.W64 o dst from) k l m n fk fl fm fn u v
result_mono width.W32 o dst from k l m n fk fl fm fn u v e = computed_mono (instr.Arithmetic width.W32 o dst from) k l m n fk fl fm fn u v

register_under : (s t : Abstract) (dst : ℕ) (m n : Option Kind) → Related Under m n → StateUnder s t → EdgeUnder (option_map (with_value s dst) m) (option_map (with_value t dst) n)
register_under s t dst None n h u = tt
register_under s t dst (Some k) None h u = absurd h
register_under s t dst (Some k) (Some l) h u = with_value_under s t dst k l h u

-- loads

-- the value of a group, if it keeps one, is within its bounds
abbrev KeepsBounds : GroupKind → Type 0
KeepsBounds (Marked marks) = Unit {0}
KeepsBounds (Spilled k) = IsBounded k

keeps_bounds : (g : GroupKind) → IsGroup g → KeepsBounds g
keeps_bounds (Marked marks) h = tt
keeps_bounds (Spilled k) h = h.1

all_keep : (gs : List GroupKind) → Each IsGroup gs → Each KeepsBounds gs
all_keep [] a = tt
all_keep (g ∷ gs) a = (keeps_bounds g a.0, all_keep gs a.1)

number_in_word : (k : Kind) → IsBounded k → is_number k ≡ true → Under k (any_of 8)
number_in_word (Num x) h e = most_words x h
number_in_word k h e = absurd (let bad : false ≡ true = e in cc)

group_value_under : (g h : GroupKind) (i : ℕ) → KeepsBounds g → GroupUnder g h → not (is_mark (mark_in h i) mark.Unset) ≡ true → Under (group_value g) (group_value h)
group_value_under (Marked xs) (Marked ys) i b u e = under_self (any_of 8)
group_value_under (Marked xs) (Spilled l) i b u e = absurd u
group_value_under (Spilled k) (Marked ys) i b u e = elim u [ inl n ↦ number_in_word k b n | inr unset ↦ absurd (none_set ys i unset e) ]
group_value_under (Spilled k) (Spilled l) i b u e = u

first_byte : (gs : List GroupKind) (at n : ℕ) → 0 < n → none_is mark.Unset gs at n ≡ true → not (is_mark (mark_at gs at) mark.Unset) ≡ true
unfolding none_is
first_byte gs at zero some e = absurd (omega (arith, some))
first_byte gs at (suc n) some e = and_left (not (is_mark (mark_at gs at) mark.Unset)) (none_is mark.Unset gs (at + 1) n) e

pub some_bytes : (at n : ℕ) → is_group at n ≡ true → 0 < n
some_bytes at zero e = absurd (let bad : false ≡ true = e in cc)
some_bytes at (suc n) e = omega arith

loaded_under : (sectors : ℕ) (gs hs : List GroupKind) (p : AccessPlace) (n : ℕ) → Each IsGroup gs → EachUnder GroupUnder gs hs → has_no mark.Unset hs p n ≡ true
    → Under (loaded_kind sectors gs p n) (loaded_kind sectors hs p n)
unfolding loaded_kind
loaded_under sectors gs hs (place.Stack at) n a u e = by_test (is_group at n) refl
  where
    by_test : (b : Bool) → is_group at n ≡ b
        → Under (if b then group_value (get_or gs (at / 8) (Marked [])) else any_of n) (if b then group_value (get_or hs (at / 8) (Marked [])) else any_of n)
    by_test true t =
        group_value_under (get_or gs (at / 8) (Marked [])) (get_or hs (at / 8) (Marked [])) (at % 8)
        (each_get KeepsBounds gs (at / 8) (Marked []) tt (all_keep gs a)) (each_at GroupUnder gs hs (at / 8) (Marked []) tt u)
        (first_byte hs at n (some_bytes at n t) e)
    by_test false t = under_self (any_of n)
loaded_under sectors gs hs (place.Context at) n a u e = under_self (loaded_kind sectors hs (place.Context at) n)
loaded_under sectors gs hs place.Outside n a u e = under_self (any_of n)
loaded_under sectors gs hs place.Sector n a u e = under_self (any_of n)

load_under : (sectors : ℕ) (s t : Abstract) (dst : ℕ) (size : Size) (base : ℕ) (d : ℤ) → IsState s → StateUnder s t → first_failing (load_rules false t base d (byte_count size)) ≡ None
    → StateUnder (load_after sectors s dst size base d) (load_after sectors t dst size base d)
unfolding load_rules
load_under sectors s t dst size base d a u e =
    let n = byte_count size in
    let p = place_of (value t base) d n in
    let told = three_tell cause.UnsetRegister cause.OutsideRegion cause.UnsetByte (are_set t (base ∷ [])) (is_inside p) (has_no mark.Unset t.groups p n)
    (let k = first_check cause.UnsetRegister (are_set t (base ∷ [])) (check cause.OutsideRegion (is_inside p) ∷ check cause.UnsetByte (has_no mark.Unset t.groups p n) ∷ check cause.PointerAsNumber (is_whole p n || has_no mark.Pointer t.groups p n) ∷ []) e in
    let l = first_check cause.OutsideRegion (is_inside p) (check cause.UnsetByte (has_no mark.Unset t.groups p n) ∷ check cause.PointerAsNumber (is_whole p n || has_no mark.Pointer t.groups p n) ∷ []) k.1 in
    let m = first_check cause.UnsetByte (has_no mark.Unset t.groups p n) (check cause.PointerAsNumber (is_whole p n || has_no mark.Pointer t.groups p n) ∷ []) l.1 in
    rw (k.0, l.0, m.0) refl) in
    let same : place_of (value s base) d n ≡ p = place_under (value s base) (value t base) d n (value_fits s base a) (value_under s t base u) told.1 in
    let loaded : Under (loaded_kind sectors s.groups (place_of (value s base) d n) n) (loaded_kind sectors t.groups p n) =
    rw same (loaded_under sectors s.groups t.groups p n a.groups u.groups told.2) in
    with_value_under s t dst (loaded_kind sectors s.groups (place_of (value s base) d n) n) (loaded_kind sectors t.groups p n) loaded u

-- stores

or_same : (a b c : Bool) → (c ≡ true → b ≡ true) → (a || c) ≡ true → (a || b) ≡ true
or_same true b c f e = refl
or_same false b c f e = f e

group_after_under : (at n g : ℕ) (x y : GroupKind) → GroupUnder x y → GroupUnder (group_after at n g x) (group_after at n g y)
unfolding group_after
group_after_under at n g x y u = by_test (is_touched at n g)
  where
    mark_under : (k : ℕ) → mark_after at n g y k ≡ true → mark_after at n g x k ≡ true
    mark_under k = or_same (is_among at n g k) (not (is_mark (mark_in x k) mark.Unset)) (not (is_mark (mark_in y k) mark.Unset)) (byte_set x y k u)

    by_test : (b : Bool) → GroupUnder (if b then Marked (marks_after at n g x) else x) (if b then Marked (marks_after at n g y) else y)
    by_test true = (mark_under 0, (mark_under 1, (mark_under 2, (mark_under 3, (mark_under 4, (mark_under 5, (mark_under 6, (mark_under 7, tt))))))))
    by_test false = u

places_under : (at n g : ℕ) (gs hs : List GroupKind) → EachUnder GroupUnder gs hs → EachUnder GroupUnder (map_places (group_after at n) g gs) (map_places (group_after at n) g hs)
unfolding map_places
places_under at n g [] [] u = tt
places_under at n g [] (y ∷ ys) u = absurd u
places_under at n g (x ∷ xs) [] u = absurd u
places_under at n g (x ∷ xs) (y ∷ ys) u = (group_after_under at n g x y u.0, places_under at n (g + 1) xs ys u.1)

written_under : (p : AccessPlace) (n : ℕ) (gs hs : List GroupKind) → EachUnder GroupUnder gs hs → EachUnder GroupUnder (written_at gs p n) (written_at hs p n)
unfolding groups_after_write
written_under (place.Stack at) n gs hs u = places_under at n 0 gs hs u
written_under place.Outside n gs hs u = u
written_under (place.Context at) n gs hs u = u
written_under place.Sector n gs hs u = u

stored_under : (k l : Kind) (gs hs : List GroupKind) (p : AccessPlace) (n : ℕ) → Under k l → not (is_unknown l) ≡ true → EachUnder GroupUnder gs hs
    → EachUnder GroupUnder (stored_groups k gs p n) (stored_groups l hs p n)
unfolding stored_groups groups_after_write
stored_under k l gs hs (place.Stack at) n v e u = rw (known_under k l v e, e) (by_test (is_group at n))
  where
    by_test : (b : Bool) → EachUnder GroupUnder (if b then set gs (at / 8) (Spilled k) else groups_after_write at n gs) (if b then set hs (at / 8) (Spilled l) else groups_after_write at n hs)
    by_test true = each_with GroupUnder gs hs (at / 8) (Spilled k) (Spilled l) v u
    by_test false = places_under at n 0 gs hs u
stored_under k l gs hs place.Outside n v e u = u
stored_under k l gs hs (place.Context at) n v e u = u
stored_under k l gs hs place.Sector n v e u = u

pub with_groups_under : (s t : Abstract) (gs hs : List GroupKind) → EachUnder GroupUnder gs hs → StateUnder s t → StateUnder (with_groups s gs) (with_groups t hs)
with_groups_under s t gs hs h u = record { values = u.values; groups = h }

store_under : (s t : Abstract) (set : Bool) (k l : Kind) (size : Size) (base : ℕ) (d : ℤ) → IsState s → StateUnder s t → Under k l → (set ≡ true → not (is_unknown l) ≡ true)
    → first_failing (store_rules false t set l base d (byte_count size)) ≡ None → StateUnder (store_after s k size base d) (store_after t l size base d)
unfolding store_rules
store_under s t set k l size base d a u v known e =
    let n = byte_count size in
    let p = place_of (value t base) d n in
    let c1 = first_check cause.UnsetRegister set (check cause.OutsideRegion (is_base (value t base)) ∷ check cause.ReadOnly (is_stack (value t base)) ∷ check cause.OutsideRegion (is_inside p) ∷ check cause.PointerAsNumber (is_number l || is_whole p n) ∷ []) e in
    let c2 = first_check cause.OutsideRegion (is_base (value t base)) (check cause.ReadOnly (is_stack (value t base)) ∷ check cause.OutsideRegion (is_inside p) ∷ check cause.PointerAsNumber (is_number l || is_whole p n) ∷ []) c1.1 in
    let c3 = first_check cause.ReadOnly (is_stack (value t base)) (check cause.OutsideRegion (is_inside p) ∷ check cause.PointerAsNumber (is_number l || is_whole p n) ∷ []) c2.1 in
    let c4 = first_check cause.OutsideRegion (is_inside p) (check cause.PointerAsNumber (is_number l || is_whole p n) ∷ []) c3.1 in
    let same : place_of (value s base) d n ≡ p = place_under (value s base) (value t base) d n (value_fits s base a) (value_under s t base u) c4.0 in
    let stored : EachUnder GroupUnder (stored_groups k s.groups (place_of (value s base) d n) n) (stored_groups l t.groups p n) =
    rw same (stored_under k l s.groups t.groups p n v (known c1.0) u.groups) in
    with_groups_under s t (stored_groups k s.groups (place_of (value s base) d n) n) (stored_groups l t.groups p n) stored u

-- calls

pub answered_under : (s t : Abstract) (k : Kind) → StateUnder s t → StateUnder (after_answer s k) (after_answer t k)
answered_under s t k u =
    let s0 = with_value s 0 k in let t0 = with_value t 0 k in let u0 = with_value_under s t 0 k k (under_self k) u in
    let s1 = with_value s0 1 Unset in let t1 = with_value t0 1 Unset in let u1 = with_value_under s0 t0 1 Unset Unset tt u0 in
    let s2 = with_value s1 2 Unset in let t2 = with_value t1 2 Unset in let u2 = with_value_under s1 t1 2 Unset Unset tt u1 in
    let s3 = with_value s2 3 Unset in let t3 = with_value t2 3 Unset in let u3 = with_value_under s2 t2 3 Unset Unset tt u2 in
    let s4 = with_value s3 4 Unset in let t4 = with_value t3 4 Unset in let u4 = with_value_under s3 t3 4 Unset Unset tt u3 in
    with_value_under s4 t4 5 Unset Unset tt u4

copied_under : (s t : Abstract) → IsState s → StateUnder s t → first_failing (call_rules false t helper.Copy) ≡ None → StateUnder (copied_state s) (copied_state t)
unfolding call_rules
copied_under s t a u e =
    let n = length_of (value t 3) in
    let p = place_of (value t 2) (pos 0) n in
    let told = three_tell cause.UnsetRegister cause.HelperArgument cause.OutsideRegion (are_set t (1 ∷ 2 ∷ 3 ∷ [])) (is_number (value t 1) && (is_stack (value t 2) && has_length (value t 3))) (is_inside p) e in
    let long : has_length (value t 3) ≡ true = and_right (is_stack (value t 2)) (has_length (value t 3)) (and_right (is_number (value t 1)) (is_stack (value t 2) && has_length (value t 3)) told.1) in
    let size : length_of (value s 3) ≡ n = (length_under (value s 3) (value t 3) (value_fits s 3 a) (value_under s t 3 u) long).1 in
    let same : place_of (value s 2) (pos 0) n ≡ p = place_under (value s 2) (value t 2) (pos 0) n (value_fits s 2 a) (value_under s t 2 u) told.2 in
    let bytes : EachUnder GroupUnder (written_at s.groups (place_of (value s 2) (pos 0) (length_of (value s 3))) (length_of (value s 3))) (written_at t.groups p n) =
    rw (size, same) (written_under p n s.groups t.groups u.groups) in
    with_groups_under s t (written_at s.groups (place_of (value s 2) (pos 0) (length_of (value s 3))) (length_of (value s 3))) (written_at t.groups p n) bytes u

call_under : (s t : Abstract) (h : Helper) → IsState s → StateUnder s t → first_failing (call_rules false t h) ≡ None → StateUnder (call_after s h) (call_after t h)
unfolding call_with
call_under s t helper.Copy a u e = answered_under (copied_state s) (copied_state t) (answer_kind helper.Copy) (copied_under s t a u e)
call_under s t helper.Again a u e = answered_under s t (answer_kind helper.Again) u
call_under s t helper.Report a u e = answered_under s t (answer_kind helper.Report) u
call_under s t (helper.Query q) a u e = answered_under s t (answer_kind (helper.Query q)) u

-- the state after an instruction

last_known : (s : Abstract) (base src : ℕ) → are_set s (base ∷ src ∷ []) ≡ true → not (is_unknown (value s src)) ≡ true
last_known s base src e =
    let rest : are_set s (src ∷ []) ≡ true = and_right (not (is_unknown (value s base))) (are_set s (src ∷ [])) e in
    and_left (not (is_unknown (value s src))) (are_set s []) rest

pub after_mono : AfterIsMonotone
unfolding after_with rules_with IsInRange
after_mono sectors s t (instr.Arithmetic w o dst from) r a b u e =
    let told = two_tell cause.UnsetRegister cause.PointerArithmetic (are_set t (operands o dst from)) (may_compute w o (value t dst) (second t from)) e in
    register_under s t dst (result_kind (instr.Arithmetic w o dst from) (value s dst) (second s from)) (result_kind (instr.Arithmetic w o dst from) (value t dst) (second t from))
    (result_mono w o dst from (value s dst) (second s from) (value t dst) (second t from) (value_fits s dst a) (second_fits s from r.1 a) (value_fits t dst b) (second_fits t from r.1 b)
    (value_under s t dst u) (second_under s t from u) told.1) u
after_mono sectors s t (instr.Negate w dst) r a b u e =
    register_under s t dst (number_result (instr.Negate w dst) (value s dst) Unset) (number_result (instr.Negate w dst) (value t dst) Unset)
    (computed_mono (instr.Negate w dst) (value s dst) Unset (value t dst) Unset (value_fits s dst a) tt (value_fits t dst b) tt (value_under s t dst u) tt) u
after_mono sectors s t (instr.SignExtend x dst src) r a b u e =
    register_under s t dst (number_result (instr.SignExtend x dst src) Unset (value s src)) (number_result (instr.SignExtend x dst src) Unset (value t src))
    (computed_mono (instr.SignExtend x dst src) Unset (value s src) Unset (value t src) tt (value_fits s src a) tt (value_fits t src b) tt (value_under s t src u)) u
after_mono sectors s t (instr.ByteOrder o size dst) r a b u e =
    register_under s t dst (number_result (instr.ByteOrder o size dst) (value s dst) Unset) (number_result (instr.ByteOrder o size dst) (value t dst) Unset)
    (computed_mono (instr.ByteOrder o size dst) (value s dst) Unset (value t dst) Unset (value_fits s dst a) tt (value_fits t dst b) tt (value_under s t dst u) tt) u
after_mono sectors s t (instr.Jump distance) r a b u e = u
after_mono sectors s t (instr.LongJump distance) r a b u e = u
after_mono sectors s t (instr.Branch w c dst from distance) r a b u e = u
after_mono sectors s t (instr.CallHelper number) r a b u e = by_helper (helper_of (cast_unsigned w32 number)) (summing_of (cast_unsigned w32 number)) e
  where
    by_helper : (m n : Option Helper) → first_failing (option_map_or (call_rules false t) m (check cause.UnknownHelper false ∷ [])) ≡ None
        → StateUnder (option_map_or (call_after s) (option_or m n) (after_answer s (Num any_word))) (option_map_or (call_after t) (option_or m n) (after_answer t (Num any_word)))
    by_helper None n e = absurd (let bad : Some cause.UnknownHelper ≡ None = e in cc)
    by_helper (Some h) n e = call_under s t h a u e
after_mono sectors s t (instr.CallLocal distance) r a b u e = answered_under s t (Num any_word) u
after_mono sectors s t instr.Exit r a b u e = u
after_mono sectors s t (instr.Load size dst base distance) r a b u e = load_under sectors s t dst size base distance a u e
after_mono sectors s t (instr.LoadSigned size dst base distance) r a b u e = with_value_under s t dst (Num any_word) (Num any_word) (under_self (Num any_word)) u
after_mono sectors s t (instr.StoreImmediate size base distance n) r a b u e =
    store_under s t (are_set t (base ∷ [])) (second s (source.Immediate n)) (second t (source.Immediate n)) size base distance a u (second_under s t (source.Immediate n) u) (λ _. refl) e
after_mono sectors s t (instr.Store size base distance src) r a b u e =
    store_under s t (are_set t (base ∷ src ∷ [])) (value s src) (value t src) size base distance a u (value_under s t src u) (last_known t base src) e
after_mono sectors s t (instr.LoadImmediate dst x) r a b u e = with_value_under s t dst (Num (any_sign (span x x))) (Num (any_sign (span x x))) (under_self (Num (any_sign (span x x)))) u

-- what is passed

given_under : (k l : Kind) → Under k l → Under (argument_kind k) (argument_kind l)
given_under k Unset u = tt
given_under (Num x) (Num y) u = u
given_under k (Num y) u = absurd u
given_under Unset l u = absurd u
given_under k l u = tt

entry_under : (s t : Abstract) → StateUnder s t → StateUnder (entry_state s) (entry_state t)
unfolding entry_state
entry_under s t u =
    let g = λ (r : ℕ). given_under (value s r) (value t r) (value_under s t r u) in
    record {
      values = (tt, (g 1, (g 2, (g 3, (g 4, (g 5, (tt, (tt, (tt, (tt, (refl, tt)))))))))));
      groups = each_self GroupUnder group_self (entry_state s).groups;
    }

pub sent_under : (slot : ℕ) (m n : Option Abstract) → EdgeUnder m n → SentUnder (passed_state slot m) (passed_state slot n)
sent_under slot None n h = tt
sent_under slot (Some s) None h = absurd h
sent_under slot (Some s) (Some t) h = inl (refl, h, tt)

after_more : (ps qs rs : List (ℕ × Abstract)) → SentUnder ps qs → SentUnder ps (rs ++ qs)
after_more [] qs rs h = tt
after_more (p ∷ ps) qs [] h = h
after_more (p ∷ ps) qs (r ∷ rs) h = inr (after_more (p ∷ ps) qs rs h)

pub both_under : (ps qs xs ys : List (ℕ × Abstract)) → SentUnder ps qs → SentUnder xs ys → SentUnder (ps ++ xs) (qs ++ ys)
both_under [] qs xs ys h k = after_more xs ys qs k
both_under (p ∷ ps) [] xs ys h k = absurd h
both_under (p ∷ ps) (q ∷ qs) xs ys (inl h) k = inl (h.0, h.1, both_under ps qs xs ys h.2 k)
both_under (p ∷ ps) (q ∷ qs) xs ys (inr h) k = inr (both_under (p ∷ ps) qs xs ys h k)

pub passes_mono : PassesAreMonotone
unfolding passed_with rules_with IsInRange
passes_mono sectors slot s t (instr.Jump distance) r a b u e = inl (refl, u, tt)
passes_mono sectors slot s t (instr.LongJump distance) r a b u e = inl (refl, u, tt)
passes_mono sectors slot s t (instr.Branch w c dst from distance) r a b u e =
    let told = two_tell cause.UnsetRegister cause.PointerAsNumber (are_set t (dst ∷ source_registers from)) (compares t w c dst from) e in
    both_under (passed_state (slot + 1) (edge_of s (instr.Branch w c dst from distance) false)) (passed_state (slot + 1) (edge_of t (instr.Branch w c dst from distance) false))
    (passed_state (target_slot slot distance) (edge_of s (instr.Branch w c dst from distance) true)) (passed_state (target_slot slot distance) (edge_of t (instr.Branch w c dst from distance) true))
    (sent_under (slot + 1) (edge_of s (instr.Branch w c dst from distance) false) (edge_of t (instr.Branch w c dst from distance) false) (edge_mono s t w c dst from distance false r.1 a b u told.1))
    (sent_under (target_slot slot distance) (edge_of s (instr.Branch w c dst from distance) true) (edge_of t (instr.Branch w c dst from distance) true) (edge_mono s t w c dst from distance true r.1 a b u told.1))
passes_mono sectors slot s t instr.Exit r a b u e = tt
passes_mono sectors slot s t (instr.CallLocal distance) r a b u e =
    both_under (passed_state (slot + 1) (after_of sectors s (instr.CallLocal distance))) (passed_state (slot + 1) (after_of sectors t (instr.CallLocal distance)))
    ((target_slot slot distance, entry_state s) ∷ []) ((target_slot slot distance, entry_state t) ∷ [])
    (sent_under (slot + 1) (after_of sectors s (instr.CallLocal distance)) (after_of sectors t (instr.CallLocal distance)) (after_mono sectors s t (instr.CallLocal distance) r a b u e))
    (inl (refl, entry_under s t u, tt))
passes_mono sectors slot s t (instr.LoadImmediate dst x) r a b u e =
    sent_under (slot + 2) (after_of sectors s (instr.LoadImmediate dst x)) (after_of sectors t (instr.LoadImmediate dst x)) (after_mono sectors s t (instr.LoadImmediate dst x) r a b u e)
passes_mono sectors slot s t i r a b u e = sent_under (slot + 1) (after_of sectors s i) (after_of sectors t i) (after_mono sectors s t i r a b u e)

-- what is passed are states

sent_fits : (slot : ℕ) (m : Option Abstract) → Holds IsState m → Each (λ p. IsState p.1) (passed_state slot m)
sent_fits slot None h = tt
sent_fits slot (Some s) h = (h, tt)

each_both : {X : Type 0} (P : X → Type 0) (xs ys : List X) → Each P xs → Each P ys → Each P (xs ++ ys)
each_both P [] ys a b = b
each_both P (x ∷ xs) ys a b = (a.0, each_both P xs ys a.1 b)

pub passed_fit : (loose : Bool) (sectors slot : ℕ) (s : Abstract) (i : Instr) → IsState s → Holds IsState (after_with loose sectors s i)
    → ((taken : Bool) → Holds IsState (edge_with loose s i taken)) → Each (λ p. IsState p.1) (passed_with loose sectors s slot i)
unfolding passed_with
passed_fit loose sectors slot s (instr.Jump distance) a after edge = (a, tt)
passed_fit loose sectors slot s (instr.LongJump distance) a after edge = (a, tt)
passed_fit loose sectors slot s (instr.Branch w c dst from distance) a after edge =
    each_both (λ p. IsState p.1) (passed_state (slot + 1) (edge_with loose s (instr.Branch w c dst from distance) false)) (passed_state (target_slot slot distance) (edge_with loose s (instr.Branch w c dst from distance) true))
    (sent_fits (slot + 1) (edge_with loose s (instr.Branch w c dst from distance) false) (edge false))
    (sent_fits (target_slot slot distance) (edge_with loose s (instr.Branch w c dst from distance) true) (edge true))
passed_fit loose sectors slot s instr.Exit a after edge = tt
passed_fit loose sectors slot s (instr.CallLocal distance) a after edge =
    each_both (λ p. IsState p.1) (passed_state (slot + 1) (after_with loose sectors s (instr.CallLocal distance))) ((target_slot slot distance, entry_state s) ∷ [])
    (sent_fits (slot + 1) (after_with loose sectors s (instr.CallLocal distance)) after) (entry_fits s a, tt)
passed_fit loose sectors slot s (instr.LoadImmediate dst x) a after edge = sent_fits (slot + 2) (after_with loose sectors s (instr.LoadImmediate dst x)) after
passed_fit loose sectors slot s i a after edge = sent_fits (slot + 1) (after_with loose sectors s i) after

pub passes_fit : (sectors slot : ℕ) (s : Abstract) (i : Instr) → sectors < 2 ^ 64 → IsInRange i → IsState s → Each (λ p. IsState p.1) (passes sectors s slot i)
passes_fit sectors slot s i h r a = passed_fit false sectors slot s i a (after_fits sectors s i h r a) (λ taken. edge_fits s i taken r a)
