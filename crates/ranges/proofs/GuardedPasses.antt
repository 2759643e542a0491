-- What is passed on with guards: states, and smaller ones where a larger state breaks no rule with guards.
use Rattle.std.proofs.Common.{◌≡◌, ℕ, zero, suc, ◌+◌, ◌/◌, ◌<◌, ◌==◌, not, ◌&&◌, ◌||◌, Bool, true, false, if◌then◌else◌, List, [], ◌∷◌, length, get_or, replicate, is_some, Option, None, Some, ℤ, pos, refl, sym, ◌∙◌, inl, inr, arith, ◌^◌}
use Rattle.std.specs.Prelude.{set}
use Rattle.std.specs.Option.{option_map, option_map_or, option_or}
use Rattle.std.specs.Int.{cast_unsigned, w32}
use Rattle.std.proofs.lemmas.Bool.Decides.{nat_tests}
use Rattle.base.specs.Check.{Check, check, first_failing}
use Rattle.base.specs.declared.causes.VerifierCause.{VerifierCause}
use Rattle.base.specs.declared.causes.VerifierCause.TheVariants as cause
use Rattle.bpf_isa.specs.declared.instr.Instr.{Instr}
use Rattle.bpf_isa.specs.declared.instr.Instr.TheVariants as instr
use Rattle.bpf_isa.specs.declared.instr.Source.{Source}
use Rattle.bpf_isa.specs.declared.instr.Source.TheVariants as source
use Rattle.bpf_isa.specs.declared.instr.Width.{Width}
use Rattle.bpf_isa.specs.declared.instr.Width.TheVariants as width
use Rattle.bpf_isa.specs.declared.instr.Operator.{Operator}
use Rattle.bpf_isa.specs.declared.instr.Operator.TheVariants as op
use Rattle.bpf_isa.specs.declared.instr.Condition.{Condition}
use Rattle.bpf_isa.specs.declared.instr.Size.{Size}
use Rattle.bpf_isa.specs.declared.instr.Size.TheVariants as size
use Rattle.bpf_isa.specs.Slots.{target_slot}
use Rattle.bpf_isa.specs.Spelling.{IsInRange, IsSourceInRange}
use Rattle.helpers.specs.declared.helper.Helper.{Helper}
use Rattle.helpers.specs.declared.helper.Helper.TheVariants as helper
use Rattle.helpers.specs.Helper.{helper_of, asked_of, summing_of}
use Rattle.machine.specs.Memory.{byte_count}
use Rattle.machine.specs.Step.{source_registers, operands}
use Rattle.intervals.specs.Spans.{span, only}
use Rattle.intervals.specs.Reducing.{Limits, LimitsWithin, any_sign}
use Rattle.intervals.specs.SignedResults.{limits_result_of}
use Rattle.intervals.specs.SignedEdges.{limits_refined}
use Rattle.intervals.proofs.Outcomes.{refined_fits}
use Rattle.ranges.specs.declared.place.AccessPlace.{AccessPlace}
use Rattle.ranges.specs.declared.place.AccessPlace.TheVariants as place
use Rattle.ranges.specs.Kinds.{Kind, Unset, Word, Num, Ctx, Stack, Sector, SectorOrNull, is_number, is_unknown, is_unset}
use Rattle.ranges.specs.Groups.{GroupKind, Marked, Spilled, unset_marks, map_places}
use Rattle.ranges.specs.States.{Abstract, unset_groups, start}
use Rattle.ranges.specs.Pointers.{moved_place, moved_offsets, moved_pointer}
use Rattle.ranges.specs.Reading.{value, second, with_value, with_groups, words, any_word, are_set, has_length, are_words}
use Rattle.ranges.specs.Places.{place_of, is_inside, is_own_memory, is_group}
use Rattle.ranges.specs.Rules.{compares, is_null_test, is_wide, is_equality, is_zero, may_be_null, call_rules, rules, length_of, guarded_rules, rules_with}
use Rattle.ranges.specs.Passing.{edge_of, with_both, tested_kind, is_equal_edge, passed_state, passes, edge_with, passed_with}
use Rattle.ranges.specs.After.{number_result, result_kind, context_word, any_of, group_value, loaded_kind, is_touched, marks_after, group_after, groups_after_write, written_at, stored_groups, answer_kind, after_answer, copied_state, call_after, load_after, store_after, after_with, call_with, loosely_loaded, loosely_loaded_at, group_forgotten, groups_forgotten, loosely_stored}
use Rattle.ranges.specs.Order.{Under, IsWord, GroupUnder, EachUnder, StateUnder, IsGroup, Each, IsState, Holds, EdgeUnder, SentUnder}
use Rattle.ranges.specs.Guards.{GuardedPassesAreMonotone, GuardedPassesFit, breaks_rule}
use Rattle.ranges.proofs.Chains.{under_self, under_chain}
use Rattle.ranges.proofs.Covering.{marks_unset, marks_refl}
use Rattle.ranges.proofs.Fitting.{start_fits}
use Rattle.ranges.proofs.Keeping.{holds_or, value_fits, second_fits, words_fit, with_value_fits, any_of_fits, any_word_fits, answer_fits, answered_fits, with_groups_fits, written_fits, stored_fits, edge_fits, after_fits}
use Rattle.ranges.proofs.Smaller.{and_left, and_right, value_under, with_value_under, second_under}
use Rattle.ranges.proofs.SmallerRules.{length_under, place_under, own_under, own_outside, rules_mono}
use Rattle.ranges.proofs.SmallerStates.{first_check, two_tell, some_bytes, answered_under, with_groups_under, sent_under, both_under, after_mono, passes_mono, passed_fit}
use Rattle.ranges.proofs.GuardedRules.{set_under}

-- groups that are forgotten

group_top : (g : GroupKind) → IsGroup g → GroupUnder g (Marked unset_marks)
group_top (Marked xs) h = marks_unset xs 8 h
group_top (Spilled k) h = inr refl

all_top : (n : ℕ) (gs : List GroupKind) → Each IsGroup gs → length gs ≡ n → EachUnder GroupUnder gs (replicate n (Marked unset_marks))
all_top zero [] a e = tt
all_top zero (g ∷ gs) a e = absurd (omega (arith, e))
all_top (suc n) [] a e = absurd (omega (arith, e))
all_top (suc n) (g ∷ gs) a e = (group_top g a.0, all_top n gs a.1 (omega (arith, e)))

unset_top : (gs : List GroupKind) → Each IsGroup gs → length gs ≡ 64 → EachUnder GroupUnder gs unset_groups
unfolding unset_groups
unset_top gs a e = all_top 64 gs a e

forget_above : (at n g : ℕ) (x y : GroupKind) → IsGroup x → GroupUnder x y → GroupUnder x (group_forgotten at n g y)
forget_above at n g x y h u = by_test (is_touched at n g)
  where
    by_test : (b : Bool) → GroupUnder x (if b then Marked unset_marks else y)
    by_test true = group_top x h
    by_test false = u

forgotten_above : (at n g : ℕ) (gs hs : List GroupKind) → Each IsGroup gs → EachUnder GroupUnder gs hs → EachUnder GroupUnder gs (map_places (group_forgotten at n) g hs)
unfolding map_places
forgotten_above at n g [] [] a u = tt
forgotten_above at n g [] (y ∷ ys) a u = absurd u
forgotten_above at n g (x ∷ xs) [] a u = absurd u
forgotten_above at n g (x ∷ xs) (y ∷ ys) a u = (forget_above at n g x y a.0 u.0, forgotten_above at n (g + 1) xs ys a.1 u.1)

forget_both : (at n g : ℕ) (x y : GroupKind) → GroupUnder x y → GroupUnder (group_forgotten at n g x) (group_forgotten at n g y)
forget_both at n g x y u = by_test (is_touched at n g)
  where
    by_test : (b : Bool) → GroupUnder (if b then Marked unset_marks else x) (if b then Marked unset_marks else y)
    by_test true = marks_refl unset_marks
    by_test false = u

forgotten_both : (at n g : ℕ) (gs hs : List GroupKind) → EachUnder GroupUnder gs hs
    → EachUnder GroupUnder (map_places (group_forgotten at n) g gs) (map_places (group_forgotten at n) g hs)
unfolding map_places
forgotten_both at n g [] [] u = tt
forgotten_both at n g [] (y ∷ ys) u = absurd u
forgotten_both at n g (x ∷ xs) [] u = absurd u
forgotten_both at n g (x ∷ xs) (y ∷ ys) u = (forget_both at n g x y u.0, forgotten_both at n (g + 1) xs ys u.1)

write_below : (at n g : ℕ) (x y : GroupKind) → GroupUnder x y → GroupUnder (group_after at n g x) (group_forgotten at n g y)
unfolding group_after
write_below at n g x y u = by_test (is_touched at n g)
  where
    by_test : (b : Bool) → GroupUnder (if b then Marked (marks_after at n g x) else x) (if b then Marked unset_marks else y)
    by_test true = marks_unset (marks_after at n g x) 8 refl
    by_test false = u

written_below : (at n g : ℕ) (gs hs : List GroupKind) → EachUnder GroupUnder gs hs
    → EachUnder GroupUnder (map_places (group_after at n) g gs) (map_places (group_forgotten at n) g hs)
unfolding map_places
written_below at n g [] [] u = tt
written_below at n g [] (y ∷ ys) u = absurd u
written_below at n g (x ∷ xs) [] u = absurd u
written_below at n g (x ∷ xs) (y ∷ ys) u = (write_below at n g x y u.0, written_below at n (g + 1) xs ys u.1)

touched_above : (at n g : ℕ) (k : Kind) (y : GroupKind) → is_touched at n g ≡ true → GroupUnder (Spilled k) (group_forgotten at n g y)
touched_above at n g k y e = rw e (inr refl)

spilled_below : (at n g i : ℕ) (k : Kind) (gs hs : List GroupKind) → Each IsGroup gs → is_touched at n (g + i) ≡ true → EachUnder GroupUnder gs hs
    → EachUnder GroupUnder (set gs i (Spilled k)) (map_places (group_forgotten at n) g hs)
unfolding map_places
spilled_below at n g i k [] [] a e u = tt
spilled_below at n g i k [] (y ∷ ys) a e u = absurd u
spilled_below at n g i k (x ∷ xs) [] a e u = absurd u
spilled_below at n g zero k (x ∷ xs) (y ∷ ys) a e u =
    let here : g + 0 ≡ g = omega arith in
    (touched_above at n g k y (rw here at e), forgotten_above at n (g + 1) xs ys a.1 u.1)
spilled_below at n g (suc i) k (x ∷ xs) (y ∷ ys) a e u =
    let there : g + suc i ≡ g + 1 + i = omega arith in
    (forget_above at n g x y a.0 u.0, spilled_below at n (g + 1) i k xs ys a.1 (rw there at e) u.1)

group_touched : (at n : ℕ) → 0 < n → is_touched at n (0 + at / 8) ≡ true
group_touched at n some = grind (arith, nat_tests)

stored_below : (k : Kind) (gs hs : List GroupKind) (at n : ℕ) → Each IsGroup gs → EachUnder GroupUnder gs hs
    → EachUnder GroupUnder (stored_groups k gs (place.Stack at) n) (map_places (group_forgotten at n) 0 hs)
unfolding stored_groups groups_after_write
stored_below k gs hs at n a u = by_test (not (is_unknown k)) (is_group at n) refl
  where
    by_test : (b c : Bool) → is_group at n ≡ c
        → EachUnder GroupUnder (if b && c then set gs (at / 8) (Spilled k) else groups_after_write at n gs) (map_places (group_forgotten at n) 0 hs)
    by_test true true e = spilled_below at n 0 (at / 8) k gs hs a (group_touched at n (some_bytes at n e)) u
    by_test true false e = written_below at n 0 gs hs u
    by_test false c e = written_below at n 0 gs hs u

-- the groups after a store or a copy, where the larger state breaks a rule; x is what the smaller one is left with
forgotten_place : (x gs hs : List GroupKind) (p q : AccessPlace) (n : ℕ) → Each IsGroup x → length x ≡ 64 → (is_inside q ≡ true → p ≡ q)
    → ((at : ℕ) → p ≡ place.Stack at → EachUnder GroupUnder x (map_places (group_forgotten at n) 0 hs)) → EachUnder GroupUnder x (groups_forgotten hs q n)
unfolding groups_forgotten
forgotten_place x gs hs p (place.Stack at) n a e same stored = stored at (same refl)
forgotten_place x gs hs p place.Outside n a e same stored = unset_top x a e
forgotten_place x gs hs p (place.Context at) n a e same stored = unset_top x a e
forgotten_place x gs hs p place.Sector n a e same stored = unset_top x a e

-- registers

unset_word : (k : Kind) → not (is_unset k) ≡ true → IsWord k
unset_word Unset e = absurd (let bad : false ≡ true = e in cc)
unset_word k e = tt

known_word : (k : Kind) → not (is_unknown k) ≡ true → IsWord k
known_word Unset e = absurd (let bad : false ≡ true = e in cc)
known_word Word e = tt
known_word k e = tt

map_word : {X : Type 0} (f : X → Kind) → ((x : X) → IsWord (f x)) → (m : Option X) → Holds IsWord (option_map f m)
map_word f h None = tt
map_word f h (Some x) = h x

number_word : (i : Instr) (k l : Kind) → Holds IsWord (number_result i k l)
number_word i k l = map_word (λ x. Num x) (λ x. tt) (limits_result_of i (words k) (words l))

moved_word : (down : Bool) (k l : Kind) → Holds IsWord (moved_pointer down k l)
unfolding moved_pointer
moved_word down (Ctx o) (Num y) = map_word (λ p. Ctx p) (λ p. tt) (moved_place 32 down o y.unsigned)
moved_word down (Stack o) (Num y) = map_word (λ p. Stack p) (λ p. tt) (moved_place 512 down o y.unsigned)
moved_word down (Sector x) (Num y) = map_word (λ z. Sector z) (λ z. tt) (moved_offsets down x y.unsigned)
moved_word down k l = tt

result_word : (w : Width) (o : Operator) (dst : ℕ) (from : Source) (k l : Kind) → IsWord l → Holds IsWord (result_kind (instr.Arithmetic w o dst from) k l)
unfolding result_kind
result_word width.W64 op.Mov dst from k l h = h
result_word width.W64 op.Add dst from k l h =
    holds_or IsWord (moved_pointer false k l) (number_result (instr.Arithmetic width.W64 op.Add dst from) k l) (moved_word false k l) (number_word (instr.Arithmetic width.W64 op.Add dst from) k l)
result_word width.W64 op.Sub dst from k l h =
    holds_or IsWord (moved_pointer true k l) (number_result (instr.Arithmetic width.W64 op.Sub dst from) k l) (moved_word true k l) (number_word (instr.Arithmetic width.W64 op.Sub dst from) k l)
result_word width.W64 o dst from k l h = number_word (instr.Arithmetic width.W64 o dst from) k l
result_word width.W32 o dst from k l h = number_word (instr.Arithmetic width.W32 o dst from) k l

-- a word in dst is under any
word_under : (s t : Abstract) (dst : ℕ) (m : Option Kind) → Holds IsWord m → StateUnder s t → EdgeUnder (option_map (with_value s dst) m) (Some (with_value t dst Word))
word_under s t dst None h u = tt
word_under s t dst (Some k) h u = with_value_under s t dst k Word h u

source_word : (t : Abstract) (o : Operator) (dst : ℕ) (from : Source) → are_words t (operands o dst from) ≡ true → not (is_unset (second t from)) ≡ true
source_word t o dst (source.Immediate n) e = refl
source_word t op.Mov dst (source.Register r) e = and_left (not (is_unset (value t r))) true e
source_word t o dst (source.Register r) e = and_left (not (is_unset (value t r))) true (and_right (not (is_unset (value t dst))) (not (is_unset (value t r)) && true) e)

-- loads

spilled_word : (g : GroupKind) → IsGroup g → IsWord (group_value g)
spilled_word (Marked marks) h = tt
spilled_word (Spilled k) h = known_word k h.0

group_word : (gs : List GroupKind) (i : ℕ) → Each IsGroup gs → IsWord (group_value (get_or gs i (Marked [])))
group_word [] i a = tt
group_word (g ∷ gs) zero a = spilled_word g a.0
group_word (g ∷ gs) (suc i) a = group_word gs i a.1

one_of_three : (b c : Bool) (x y z : Limits) → IsWord (if b then Num x else if c then Num y else Num z)
one_of_three true c x y z = tt
one_of_three false true x y z = tt
one_of_three false false x y z = tt

context_is_word : (sectors at : ℕ) → IsWord (context_word sectors at)
context_is_word sectors at = one_of_three (at == 0) (at == 8 || at == 16) (any_sign (only sectors)) (any_sign (span 0 65536)) (any_sign (only 0))

loaded_word : (sectors : ℕ) (gs : List GroupKind) (p : AccessPlace) (n : ℕ) → Each IsGroup gs → IsWord (loaded_kind sectors gs p n)
unfolding loaded_kind
loaded_word sectors gs (place.Context at) n a = by_test (is_group at n)
  where
    by_test : (b : Bool) → IsWord (if b then context_word sectors at else any_of n)
    by_test true = context_is_word sectors at
    by_test false = tt
loaded_word sectors gs (place.Stack at) n a = by_test (is_group at n)
  where
    by_test : (b : Bool) → IsWord (if b then group_value (get_or gs (at / 8) (Marked [])) else any_of n)
    by_test true = group_word gs (at / 8) a
    by_test false = tt
loaded_word sectors gs place.Outside n a = tt
loaded_word sectors gs place.Sector n a = tt

loaded_below : (sectors : ℕ) (gs : List GroupKind) (p : AccessPlace) (n : Size) → Each IsGroup gs → Under (loaded_kind sectors gs p (byte_count n)) (loosely_loaded n)
unfolding loaded_kind
loaded_below sectors gs p size.Double a = loaded_word sectors gs p 8 a
loaded_below sectors gs (place.Context at) size.Byte a = under_self (any_of 1)
loaded_below sectors gs (place.Stack at) size.Byte a = under_self (any_of 1)
loaded_below sectors gs place.Outside size.Byte a = under_self (any_of 1)
loaded_below sectors gs place.Sector size.Byte a = under_self (any_of 1)
loaded_below sectors gs (place.Context at) size.Half a = under_self (any_of 2)
loaded_below sectors gs (place.Stack at) size.Half a = under_self (any_of 2)
loaded_below sectors gs place.Outside size.Half a = under_self (any_of 2)
loaded_below sectors gs place.Sector size.Half a = under_self (any_of 2)
loaded_below sectors gs (place.Context at) size.Word a = under_self (any_of 4)
loaded_below sectors gs (place.Stack at) size.Word a = under_self (any_of 4)
loaded_below sectors gs place.Outside size.Word a = under_self (any_of 4)
loaded_below sectors gs place.Sector size.Word a = under_self (any_of 4)

-- a load of the program's own memory gives any number, and so does one of no place
loaded_outside : (sectors : ℕ) (gs : List GroupKind) (p : AccessPlace) (n : ℕ) → p ≡ place.Outside → loaded_kind sectors gs p n ≡ any_of n
unfolding loaded_kind
loaded_outside sectors gs p n e = rw e refl

any_below : (n : Size) → Under (any_of (byte_count n)) (loosely_loaded n)
any_below size.Byte = under_self (any_of 1)
any_below size.Half = under_self (any_of 2)
any_below size.Word = under_self (any_of 4)
any_below size.Double = tt

kept_load : (sectors : ℕ) (s t : Abstract) (n : Size) (base : ℕ) (d : ℤ) → IsState s → StateUnder s t
    → Under (loaded_kind sectors s.groups (place_of (value s base) d (byte_count n)) (byte_count n)) (loosely_loaded_at t n base d)
kept_load sectors s t n base d a u = by (is_own_memory (value t base) d (byte_count n)) refl
  where
    by : (b : Bool) → is_own_memory (value t base) d (byte_count n) ≡ b
        → Under (loaded_kind sectors s.groups (place_of (value s base) d (byte_count n)) (byte_count n)) (if b then any_of (byte_count n) else loosely_loaded n)
    by true e =
        let own : is_own_memory (value s base) d (byte_count n) ≡ true = own_under (value s base) (value t base) d (byte_count n) (value_fits s base a) (value_under s t base u) e in
        rw (loaded_outside sectors s.groups (place_of (value s base) d (byte_count n)) (byte_count n) (own_outside (value s base) d (byte_count n) own)) (under_self (any_of (byte_count n)))
    by false e = loaded_below sectors s.groups (place_of (value s base) d (byte_count n)) n a.groups

loose_load : (s t : Abstract) (n : Size) (base : ℕ) (d : ℤ) → IsState s → StateUnder s t → Under (loosely_loaded_at s n base d) (loosely_loaded_at t n base d)
loose_load s t n base d a u = by (is_own_memory (value s base) d (byte_count n)) (is_own_memory (value t base) d (byte_count n)) refl refl
  where
    by : (x y : Bool) → is_own_memory (value s base) d (byte_count n) ≡ x → is_own_memory (value t base) d (byte_count n) ≡ y
        → Under (if x then any_of (byte_count n) else loosely_loaded n) (if y then any_of (byte_count n) else loosely_loaded n)
    by true true e f = under_self (any_of (byte_count n))
    by true false e f = any_below n
    by false false e f = under_self (loosely_loaded n)
    by false true e f =
        let own : is_own_memory (value s base) d (byte_count n) ≡ true = own_under (value s base) (value t base) d (byte_count n) (value_fits s base a) (value_under s t base u) f in
        absurd (let bad : true ≡ false = sym own ∙ e in cc)

-- stores and copies

same_place : (s t : Abstract) (base : ℕ) (d : ℤ) (n : ℕ) → IsState s → StateUnder s t → is_inside (place_of (value t base) d n) ≡ true
    → place_of (value s base) d n ≡ place_of (value t base) d n
same_place s t base d n a u inside = place_under (value s base) (value t base) d n (value_fits s base a) (value_under s t base u) inside

kept_groups : (k : Kind) (gs : List GroupKind) (p : AccessPlace) (n : ℕ) → p ≡ place.Outside → stored_groups k gs p n ≡ gs
unfolding stored_groups
kept_groups k gs p n e = rw e refl

own_there : (s t : Abstract) (base : ℕ) (d : ℤ) (n : ℕ) → IsState s → StateUnder s t → is_own_memory (value t base) d n ≡ true → place_of (value s base) d n ≡ place.Outside
own_there s t base d n a u e = own_outside (value s base) d n (own_under (value s base) (value t base) d n (value_fits s base a) (value_under s t base u) e)

kept_store : (s t : Abstract) (k : Kind) (n base : ℕ) (d : ℤ) → IsState s → StateUnder s t → IsState (with_groups s (stored_groups k s.groups (place_of (value s base) d n) n))
    → StateUnder (with_groups s (stored_groups k s.groups (place_of (value s base) d n) n)) (loosely_stored t base d n)
kept_store s t k n base d a u fits = by (is_own_memory (value t base) d n) refl
  where
    by : (b : Bool) → is_own_memory (value t base) d n ≡ b
        → StateUnder (with_groups s (stored_groups k s.groups (place_of (value s base) d n) n)) (with_groups t (if b then t.groups else groups_forgotten t.groups (place_of (value t base) d n) n))
    by true e =
        let same : stored_groups k s.groups (place_of (value s base) d n) n ≡ s.groups = kept_groups k s.groups (place_of (value s base) d n) n (own_there s t base d n a u e) in
        rw same (with_groups_under s t s.groups t.groups u.groups u)
    by false e =
        let p = place_of (value s base) d n in
        let q = place_of (value t base) d n in
        let stored : (at : ℕ) → p ≡ place.Stack at → EachUnder GroupUnder (stored_groups k s.groups p n) (map_places (group_forgotten at n) 0 t.groups) =
        λ at e. rw e (stored_below k s.groups t.groups at n a.groups u.groups) in
        with_groups_under s t (stored_groups k s.groups p n) (groups_forgotten t.groups q n)
        (forgotten_place (stored_groups k s.groups p n) s.groups t.groups p q n fits.groups fits.stack (same_place s t base d n a u) stored) u

copied_below : (s t : Abstract) (p q : AccessPlace) (n : ℕ) → IsState (with_groups s (written_at s.groups p n)) → StateUnder s t → (is_inside q ≡ true → p ≡ q)
    → EachUnder GroupUnder (written_at s.groups p n) (groups_forgotten t.groups q n)
unfolding groups_after_write
copied_below s t p q n fits u same =
    forgotten_place (written_at s.groups p n) s.groups t.groups p q n fits.groups fits.stack same
    (λ at e. rw e (written_below at n 0 s.groups t.groups u.groups))

forgotten_same : (at n : ℕ) (gs hs : List GroupKind) → EachUnder GroupUnder gs hs → EachUnder GroupUnder (groups_forgotten gs (place.Stack at) n) (map_places (group_forgotten at n) 0 hs)
unfolding groups_forgotten
forgotten_same at n gs hs u = forgotten_both at n 0 gs hs u

loose_store : (s t : Abstract) (base : ℕ) (d : ℤ) (n : ℕ) → IsState s → StateUnder s t → IsState (with_groups s (groups_forgotten s.groups (place_of (value s base) d n) n)) → StateUnder (loosely_stored s base d n) (loosely_stored t base d n)
loose_store s t base d n a u fits = by (is_own_memory (value s base) d n) (is_own_memory (value t base) d n) refl refl
  where
    by : (x y : Bool) → is_own_memory (value s base) d n ≡ x → is_own_memory (value t base) d n ≡ y
        → StateUnder (with_groups s (if x then s.groups else groups_forgotten s.groups (place_of (value s base) d n) n)) (with_groups t (if y then t.groups else groups_forgotten t.groups (place_of (value t base) d n) n))
    by true true e f = with_groups_under s t s.groups t.groups u.groups u
    by true false e f =
        with_groups_under s t s.groups (groups_forgotten t.groups (place_of (value t base) d n) n)
        (forgotten_place s.groups s.groups t.groups (place_of (value s base) d n) (place_of (value t base) d n) n a.groups a.stack (same_place s t base d n a u)
        (λ at h. forgotten_above at n 0 s.groups t.groups a.groups u.groups)) u
    by false true e f =
        let own : is_own_memory (value s base) d n ≡ true = own_under (value s base) (value t base) d n (value_fits s base a) (value_under s t base u) f in
        absurd (let bad : true ≡ false = sym own ∙ e in cc)
    by false false e f =
        let p = place_of (value s base) d n in
        let q = place_of (value t base) d n in
        let stored : (at : ℕ) → p ≡ place.Stack at → EachUnder GroupUnder (groups_forgotten s.groups p n) (map_places (group_forgotten at n) 0 t.groups) =
        λ at e. rw e (forgotten_same at n s.groups t.groups u.groups) in
        with_groups_under s t (groups_forgotten s.groups p n) (groups_forgotten t.groups q n)
        (forgotten_place (groups_forgotten s.groups p n) s.groups t.groups p q n fits.groups fits.stack (same_place s t base d n a u) stored) u

-- what is left fits

forget_fits : (at n g : ℕ) (x : GroupKind) → IsGroup x → IsGroup (group_forgotten at n g x)
forget_fits at n g x h = by_test (is_touched at n g)
  where
    by_test : (b : Bool) → IsGroup (if b then Marked unset_marks else x)
    by_test true = refl
    by_test false = h

forgotten_fits : (at n g : ℕ) (gs : List GroupKind) → Each IsGroup gs → Each IsGroup (map_places (group_forgotten at n) g gs)
unfolding map_places
forgotten_fits at n g [] a = tt
forgotten_fits at n g (x ∷ xs) a = (forget_fits at n g x a.0, forgotten_fits at n (g + 1) xs a.1)

forgotten_long : (at n g : ℕ) (gs : List GroupKind) → length (map_places (group_forgotten at n) g gs) ≡ length gs
unfolding map_places
forgotten_long at n g [] = refl
forgotten_long at n g (x ∷ xs) = let rest = forgotten_long at n (g + 1) xs in omega (arith, rest)

unset_fits : Each IsGroup unset_groups × (length unset_groups ≡ 64)
unfolding start
unset_fits = (start_fits.groups, start_fits.stack)

loose_fits : (s : Abstract) (p : AccessPlace) (n : ℕ) → IsState s → IsState (with_groups s (groups_forgotten s.groups p n))
unfolding groups_forgotten
loose_fits s (place.Stack at) n a = with_groups_fits s (map_places (group_forgotten at n) 0 s.groups) a (forgotten_fits at n 0 s.groups a.groups) (forgotten_long at n 0 s.groups)
loose_fits s place.Outside n a = with_groups_fits s unset_groups a unset_fits.0 (unset_fits.1 ∙ sym a.stack)
loose_fits s (place.Context at) n a = with_groups_fits s unset_groups a unset_fits.0 (unset_fits.1 ∙ sym a.stack)
loose_fits s place.Sector n a = with_groups_fits s unset_groups a unset_fits.0 (unset_fits.1 ∙ sym a.stack)

left_fits : (s : Abstract) (base : ℕ) (d : ℤ) (n : ℕ) → IsState s → IsState (loosely_stored s base d n)
left_fits s base d n a = by (is_own_memory (value s base) d n)
  where
    by : (b : Bool) → IsState (with_groups s (if b then s.groups else groups_forgotten s.groups (place_of (value s base) d n) n))
    by true = with_groups_fits s s.groups a a.groups refl
    by false = loose_fits s (place_of (value s base) d n) n a

loose_load_fits : (s : Abstract) (dst : ℕ) (n : Size) → IsState s → IsState (with_value s dst (loosely_loaded n))
loose_load_fits s dst size.Double a = with_value_fits s dst Word tt a
loose_load_fits s dst size.Byte a = with_value_fits s dst (any_of 1) (any_of_fits size.Byte) a
loose_load_fits s dst size.Half a = with_value_fits s dst (any_of 2) (any_of_fits size.Half) a
loose_load_fits s dst size.Word a = with_value_fits s dst (any_of 4) (any_of_fits size.Word) a

load_at_fits : (s : Abstract) (dst : ℕ) (n : Size) (base : ℕ) (d : ℤ) → IsState s → IsState (with_value s dst (loosely_loaded_at s n base d))
load_at_fits s dst n base d a = by (is_own_memory (value s base) d (byte_count n))
  where
    by : (b : Bool) → IsState (with_value s dst (if b then any_of (byte_count n) else loosely_loaded n))
    by true = with_value_fits s dst (any_of (byte_count n)) (any_of_fits n) a
    by false = loose_load_fits s dst n a

loose_call_fits : (s : Abstract) (h : Helper) → IsState s → IsState (call_with true s h)
unfolding call_with
loose_call_fits s helper.Copy a =
    answered_fits (loosely_stored s 2 (pos 0) (length_of (value s 3))) (answer_kind helper.Copy) (answer_fits helper.Copy)
    (left_fits s 2 (pos 0) (length_of (value s 3)) a)
loose_call_fits s helper.Again a = answered_fits s (answer_kind helper.Again) (answer_fits helper.Again) a
loose_call_fits s helper.Report a = answered_fits s (answer_kind helper.Report) (answer_fits helper.Report) a
loose_call_fits s (helper.Query q) a = answered_fits s (answer_kind (helper.Query q)) (answer_fits (helper.Query q)) a

pub after_with_fits : (loose : Bool) (sectors : ℕ) (s : Abstract) (i : Instr) → sectors < 2 ^ 64 → IsInRange i → IsState s → Holds IsState (after_with loose sectors s i)
unfolding after_with
after_with_fits false sectors s i h r a = after_fits sectors s i h r a
after_with_fits true sectors s (instr.Arithmetic w o dst from) h r a = with_value_fits s dst Word tt a
after_with_fits true sectors s (instr.Negate w dst) h r a = with_value_fits s dst Word tt a
after_with_fits true sectors s (instr.SignExtend x dst src) h r a = with_value_fits s dst Word tt a
after_with_fits true sectors s (instr.ByteOrder o n dst) h r a = with_value_fits s dst Word tt a
after_with_fits true sectors s (instr.Load n dst base distance) h r a = load_at_fits s dst n base distance a
after_with_fits true sectors s (instr.StoreImmediate n base distance x) h r a = left_fits s base distance (byte_count n) a
after_with_fits true sectors s (instr.Store n base distance src) h r a = left_fits s base distance (byte_count n) a
after_with_fits true sectors s (instr.CallHelper number) h r a = by_helper (asked_of (cast_unsigned w32 number))
  where
    by_helper : (m : Option Helper) → IsState (option_map_or (call_with true s) m (after_answer s (Num any_word)))
    by_helper None = answered_fits s (Num any_word) any_word_fits a
    by_helper (Some x) = loose_call_fits s x a
after_with_fits true sectors s i h r a = after_fits sectors s i h r a

pub edge_with_fits : (loose : Bool) (s : Abstract) (i : Instr) (taken : Bool) → IsInRange i → IsState s → Holds IsState (edge_with loose s i taken)
unfolding edge_with
edge_with_fits false s i taken r a = edge_fits s i taken r a
edge_with_fits true s (instr.Branch w c dst from distance) taken r a = a
edge_with_fits true s i taken r a = a

pub passed_with_fits : (loose : Bool) (sectors slot : ℕ) (s : Abstract) (i : Instr) → sectors < 2 ^ 64 → IsInRange i → IsState s → Each (λ p. IsState p.1) (passed_with loose sectors s slot i)
passed_with_fits loose sectors slot s i h r a = passed_fit loose sectors slot s i a (after_with_fits loose sectors s i h r a) (λ taken. edge_with_fits loose s i taken r a)

pub guarded_passes_fit : GuardedPassesFit
guarded_passes_fit sectors slot s i h r a = passed_with_fits (breaks_rule s i) sectors slot s i h r a

-- the edges of a conditional jump, where the larger state tests no numbers

each_below : {X : Type 0} (R : X → X → Type 0) (xs ys : List X) (i : ℕ) (x d : X) → R x (get_or ys i d) → EachUnder R xs ys → EachUnder R (set xs i x) ys
each_below R [] [] i x d r u = tt
each_below R [] (y ∷ ys) i x d r u = absurd u
each_below R (z ∷ zs) [] i x d r u = absurd u
each_below R (z ∷ zs) (y ∷ ys) zero x d r u = (r, u.1)
each_below R (z ∷ zs) (y ∷ ys) (suc i) x d r u = (u.0, each_below R zs ys i x d r u.1)

value_below : (s t : Abstract) (r : ℕ) (k : Kind) → Under k (value t r) → StateUnder s t → StateUnder (with_value s r k) t
value_below s t r k h u = record { values = each_below Under s.values t.values r k Unset h u.values; groups = u.groups }

tested_is_word : (b : Bool) → IsWord (tested_kind b)
tested_is_word true = tt
tested_is_word false = tt

tested_below : (k l : Kind) (b : Bool) → Under k l → may_be_null k ≡ true → may_be_null l ≡ false → Under (tested_kind b) l
tested_below k Unset b u e f = tt
tested_below k Word b u e f = tested_is_word b
tested_below k SectorOrNull b u e f = absurd (let bad : true ≡ false = f in cc)
tested_below SectorOrNull (Num x) b u e f = absurd u
tested_below SectorOrNull (Ctx x) b u e f = absurd u
tested_below SectorOrNull (Stack x) b u e f = absurd u
tested_below SectorOrNull (Sector x) b u e f = absurd u
tested_below k l b u e f = absurd (let bad : false ≡ true = e in cc)

narrowed_below : (k l : Kind) (x : Limits) → is_number k ≡ true → LimitsWithin x (words k) → Under k l → Under (Num x) l
narrowed_below (Num y) l x e w u = under_chain (Num x) (Num y) l w u
narrowed_below k l x e w u = absurd (let bad : false ≡ true = e in cc)

-- the test of the smaller state is one of the larger one, if its value may be null
null_test_parts : (w : Width) (c : Condition) (from : Source) (k : Kind) → is_null_test w c from k ≡ true
    → (is_wide w ≡ true) × (is_equality c ≡ true) × (is_zero from ≡ true) × (may_be_null k ≡ true)
unfolding is_null_test
null_test_parts w c from k e =
    let e1 : (is_equality c && (is_zero from && may_be_null k)) ≡ true = and_right (is_wide w) (is_equality c && (is_zero from && may_be_null k)) e in
    let e2 : (is_zero from && may_be_null k) ≡ true = and_right (is_equality c) (is_zero from && may_be_null k) e1 in (
      and_left (is_wide w) (is_equality c && (is_zero from && may_be_null k)) e,
      and_left (is_equality c) (is_zero from && may_be_null k) e1,
      and_left (is_zero from) (may_be_null k) e2,
      and_right (is_zero from) (may_be_null k) e2,
    )

no_null : (w : Width) (c : Condition) (from : Source) (k l : Kind) → is_null_test w c from k ≡ true → is_null_test w c from l ≡ false → may_be_null l ≡ false
unfolding is_null_test
no_null w c from k l e f =
    let parts = null_test_parts w c from k e in
    let same : (true && (true && (true && may_be_null l))) ≡ false = rw (parts.0, parts.1, parts.2) at f in
    same

edge_below : (s t : Abstract) (w : Width) (c : Condition) (dst : ℕ) (from : Source) (distance : ℤ) (taken : Bool) → IsSourceInRange from → IsState s → StateUnder s t
    → compares s w c dst from ≡ true → compares t w c dst from ≡ false → EdgeUnder (edge_of s (instr.Branch w c dst from distance) taken) (Some t)
unfolding edge_with compares
edge_below s t w c dst from distance taken r a u ok broken = by_test (is_null_test w c from (value s dst)) refl ok
  where
    no_test : is_null_test w c from (value t dst) ≡ false
    no_test = or_first (is_null_test w c from (value t dst)) (is_number (value t dst) && is_number (second t from)) broken
      where
        or_first : (x y : Bool) → (x || y) ≡ false → x ≡ false
        or_first true y h = absurd (let bad : true ≡ false = h in cc)
        or_first false y h = refl

    narrowed : (q : Source) (p : Limits × Limits) → is_number (value s dst) ≡ true → is_number (second s q) ≡ true → LimitsWithin p.0 (words (value s dst)) → LimitsWithin p.1 (words (second s q))
        → StateUnder (with_both s dst q p) t
    narrowed (source.Immediate n) p first other v z = value_below s t dst (Num p.0) (narrowed_below (value s dst) (value t dst) p.0 first v (value_under s t dst u)) u
    narrowed (source.Register q) p first other v z =
        value_below (with_value s dst (Num p.0)) t q (Num p.1) (narrowed_below (value s q) (value t q) p.1 other z (value_under s t q u))
        (value_below s t dst (Num p.0) (narrowed_below (value s dst) (value t dst) p.0 first v (value_under s t dst u)) u)

    by_edge : (m : Option (Limits × Limits)) → is_number (value s dst) ≡ true → is_number (second s from) ≡ true
        → limits_refined (instr.Branch w c dst from distance) taken (words (value s dst)) (words (second s from)) ≡ m → EdgeUnder (option_map (with_both s dst from) m) (Some t)
    by_edge None first other e = tt
    by_edge (Some p) first other e =
        let within = refined_fits (instr.Branch w c dst from distance) taken (words (value s dst)) (words (second s from)) p
        (words_fit (value s dst) (value_fits s dst a)) (words_fit (second s from) (second_fits s from r a)) e in
        narrowed from p first other within.2 within.3

    by_test : (x : Bool) → is_null_test w c from (value s dst) ≡ x → (x || (is_number (value s dst) && is_number (second s from))) ≡ true
        → EdgeUnder
        (if x then Some (with_value s dst (tested_kind (is_equal_edge c taken)))
        else option_map (with_both s dst from) (limits_refined (instr.Branch w c dst from distance) taken (words (value s dst)) (words (second s from))))
        (Some t)
    by_test true e ok =
        value_below s t dst (tested_kind (is_equal_edge c taken))
        (tested_below (value s dst) (value t dst) (is_equal_edge c taken) (value_under s t dst u) (null_test_parts w c from (value s dst) e).3
        (no_null w c from (value s dst) (value t dst) e no_test)) u
    by_test false e ok =
        by_edge (limits_refined (instr.Branch w c dst from distance) taken (words (value s dst)) (words (second s from)))
        (and_left (is_number (value s dst)) (is_number (second s from)) ok) (and_right (is_number (value s dst)) (is_number (second s from)) ok) refl

-- what a smaller state passes on by the rules without guards is under what a larger one does that breaks one of them

sent_one : (slot : ℕ) (m : Option Abstract) (t : Abstract) → EdgeUnder m (Some t) → SentUnder (passed_state slot m) ((slot, t) ∷ [])
sent_one slot m t h = sent_under slot m (Some t) h

copied_state_below : (s t : Abstract) → IsState s → StateUnder s t → has_length (value t 3) ≡ true → IsState (copied_state s) → StateUnder (copied_state s) (loosely_stored t 2 (pos 0) (length_of (value t 3)))
copied_state_below s t a u long fits =
    let same : length_of (value s 3) ≡ length_of (value t 3) = (length_under (value s 3) (value t 3) (value_fits s 3 a) (value_under s t 3 u) long).1 in
    by_length (length_of (value s 3)) same fits
  where
    by_length : (n : ℕ) → n ≡ length_of (value t 3) → IsState (with_groups s (written_at s.groups (place_of (value s 2) (pos 0) n) n))
        → StateUnder (with_groups s (written_at s.groups (place_of (value s 2) (pos 0) n) n)) (loosely_stored t 2 (pos 0) (length_of (value t 3)))
    by_length n e fits =
        rw (sym e) (by_own (is_own_memory (value t 2) (pos 0) n) refl)
      where
        unwritten : (p : AccessPlace) → p ≡ place.Outside → written_at s.groups p n ≡ s.groups
        unwritten p outside = rw outside refl

        by_own : (b : Bool) → is_own_memory (value t 2) (pos 0) n ≡ b
            → StateUnder (with_groups s (written_at s.groups (place_of (value s 2) (pos 0) n) n)) (with_groups t (if b then t.groups else groups_forgotten t.groups (place_of (value t 2) (pos 0) n) n))
        by_own true own = rw (unwritten (place_of (value s 2) (pos 0) n) (own_there s t 2 (pos 0) n a u own)) (with_groups_under s t s.groups t.groups u.groups u)
        by_own false own =
            with_groups_under s t (written_at s.groups (place_of (value s 2) (pos 0) n) n) (groups_forgotten t.groups (place_of (value t 2) (pos 0) n) n)
            (copied_below s t (place_of (value s 2) (pos 0) n) (place_of (value t 2) (pos 0) n) n fits u (same_place s t 2 (pos 0) n a u)) u

kept_call : (s t : Abstract) (h : Helper) → IsState s → StateUnder s t → first_failing (call_rules true t h) ≡ None → IsState (copied_state s)
    → StateUnder (call_after s h) (call_with true t h)
unfolding call_rules call_with
kept_call s t helper.Copy a u g fits =
    let long : has_length (value t 3) ≡ true = (two_tell cause.UnsetRegister cause.HelperArgument (are_words t (1 ∷ 2 ∷ 3 ∷ [])) (has_length (value t 3)) g).1 in
    answered_under (copied_state s) (loosely_stored t 2 (pos 0) (length_of (value t 3))) (answer_kind helper.Copy) (copied_state_below s t a u long fits)
kept_call s t helper.Again a u g fits = answered_under s t (answer_kind helper.Again) u
kept_call s t helper.Report a u g fits = answered_under s t (answer_kind helper.Report) u
kept_call s t (helper.Query q) a u g fits = answered_under s t (answer_kind (helper.Query q)) u

number_known : (k : Kind) → is_number k ≡ true → not (is_unknown k) ≡ true
number_known (Num x) e = refl
number_known k e = absurd (let bad : false ≡ true = e in cc)

null_known : (k : Kind) → may_be_null k ≡ true → not (is_unknown k) ≡ true
null_known SectorOrNull e = refl
null_known k e = absurd (let bad : false ≡ true = e in cc)

numbers_set : (t : Abstract) (dst : ℕ) (from : Source) → is_number (value t dst) ≡ true → is_number (second t from) ≡ true → are_set t (dst ∷ source_registers from) ≡ true
numbers_set t dst (source.Immediate n) e f = rw (number_known (value t dst) e) refl
numbers_set t dst (source.Register r) e f = rw (number_known (value t dst) e, number_known (value t r) f) refl

null_set : (t : Abstract) (dst : ℕ) (from : Source) → may_be_null (value t dst) ≡ true → is_zero from ≡ true → are_set t (dst ∷ source_registers from) ≡ true
null_set t dst (source.Immediate n) e f = rw (null_known (value t dst) e) refl
null_set t dst (source.Register r) e f = absurd (let bad : false ≡ true = f in cc)

-- the registers of a test of numbers, or of an answer of helper 1, are set
compared_set : (t : Abstract) (w : Width) (c : Condition) (dst : ℕ) (from : Source) → compares t w c dst from ≡ true → are_set t (dst ∷ source_registers from) ≡ true
unfolding compares
compared_set t w c dst from e = by_test (is_null_test w c from (value t dst)) refl e
  where
    by_test : (x : Bool) → is_null_test w c from (value t dst) ≡ x → (x || (is_number (value t dst) && is_number (second t from))) ≡ true → are_set t (dst ∷ source_registers from) ≡ true
    by_test true f e = let parts = null_test_parts w c from (value t dst) f in null_set t dst from parts.3 parts.2
    by_test false f e = numbers_set t dst from (and_left (is_number (value t dst)) (is_number (second t from)) e) (and_right (is_number (value t dst)) (is_number (second t from)) e)

-- so a jump whose rules are broken tests neither
broken_test : (t : Abstract) (w : Width) (c : Condition) (dst : ℕ) (from : Source) (why : VerifierCause)
    → first_failing (check cause.UnsetRegister (are_set t (dst ∷ source_registers from)) ∷ check cause.PointerAsNumber (compares t w c dst from) ∷ []) ≡ Some why
    → compares t w c dst from ≡ false
broken_test t w c dst from why e = by_test (compares t w c dst from) refl
  where
    by_test : (x : Bool) → compares t w c dst from ≡ x → x ≡ false
    by_test false f = refl
    by_test true f = absurd (let bad : None ≡ Some why = rw (compared_set t w c dst from f, f) at e in cc)

no_rule : (why : VerifierCause) → None ≡ Some why → ⊥
no_rule why e = cc

kept_below : (sectors slot : ℕ) (s t : Abstract) (i : Instr) (why : VerifierCause) → IsInRange i → IsState s → StateUnder s t → first_failing (guarded_rules t i) ≡ None
    → first_failing (rules s i) ≡ None → first_failing (rules t i) ≡ Some why → SentUnder (passes sectors s slot i) (passed_with true sectors t slot i)
unfolding passed_with after_with edge_with rules_with IsInRange
kept_below sectors slot s t (instr.Arithmetic w o dst from) why r a u g e f =
    let told : are_words t (operands o dst from) ≡ true = (first_check cause.UnsetRegister (are_words t (operands o dst from)) [] g).0 in
    let there : IsWord (second s from) = unset_word (second s from) (set_under (second s from) (second t from) (second_under s t from u) (source_word t o dst from told)) in
    sent_one (slot + 1) (option_map (with_value s dst) (result_kind (instr.Arithmetic w o dst from) (value s dst) (second s from))) (with_value t dst Word)
    (word_under s t dst (result_kind (instr.Arithmetic w o dst from) (value s dst) (second s from)) (result_word w o dst from (value s dst) (second s from) there) u)
kept_below sectors slot s t (instr.Negate w dst) why r a u g e f =
    sent_one (slot + 1) (option_map (with_value s dst) (number_result (instr.Negate w dst) (value s dst) Unset)) (with_value t dst Word)
    (word_under s t dst (number_result (instr.Negate w dst) (value s dst) Unset) (number_word (instr.Negate w dst) (value s dst) Unset) u)
kept_below sectors slot s t (instr.SignExtend x dst src) why r a u g e f =
    sent_one (slot + 1) (option_map (with_value s dst) (number_result (instr.SignExtend x dst src) Unset (value s src))) (with_value t dst Word)
    (word_under s t dst (number_result (instr.SignExtend x dst src) Unset (value s src)) (number_word (instr.SignExtend x dst src) Unset (value s src)) u)
kept_below sectors slot s t (instr.ByteOrder o n dst) why r a u g e f =
    sent_one (slot + 1) (option_map (with_value s dst) (number_result (instr.ByteOrder o n dst) (value s dst) Unset)) (with_value t dst Word)
    (word_under s t dst (number_result (instr.ByteOrder o n dst) (value s dst) Unset) (number_word (instr.ByteOrder o n dst) (value s dst) Unset) u)
kept_below sectors slot s t (instr.Jump distance) why r a u g e f = absurd (no_rule why f)
kept_below sectors slot s t (instr.LongJump distance) why r a u g e f = absurd (no_rule why f)
kept_below sectors slot s t (instr.Branch w c dst from distance) why r a u g e f =
    let ok : compares s w c dst from ≡ true = (two_tell cause.UnsetRegister cause.PointerAsNumber (are_set s (dst ∷ source_registers from)) (compares s w c dst from) e).1 in
    let broken : compares t w c dst from ≡ false = broken_test t w c dst from why f in
    both_under (passed_state (slot + 1) (edge_of s (instr.Branch w c dst from distance) false)) ((slot + 1, t) ∷ [])
    (passed_state (target_slot slot distance) (edge_of s (instr.Branch w c dst from distance) true)) ((target_slot slot distance, t) ∷ [])
    (sent_one (slot + 1) (edge_of s (instr.Branch w c dst from distance) false) t (edge_below s t w c dst from distance false r.1 a u ok broken))
    (sent_one (target_slot slot distance) (edge_of s (instr.Branch w c dst from distance) true) t (edge_below s t w c dst from distance true r.1 a u ok broken))
kept_below sectors slot s t (instr.CallHelper number) why r a u g e f = by_helper (helper_of (cast_unsigned w32 number)) (summing_of (cast_unsigned w32 number)) g e
  where
    by_helper : (m n : Option Helper) → first_failing (option_map_or (call_rules true t) (option_or m n) (check cause.UnknownHelper false ∷ [])) ≡ None
        → first_failing (option_map_or (call_rules false s) m (check cause.UnknownHelper false ∷ [])) ≡ None
        → SentUnder (passed_state (slot + 1) (Some (option_map_or (call_after s) (option_or m n) (after_answer s (Num any_word)))))
        ((slot + 1, option_map_or (call_with true t) (option_or m n) (after_answer t (Num any_word))) ∷ [])
    by_helper None n g e = absurd (let bad : Some cause.UnknownHelper ≡ None = e in cc)
    by_helper (Some h) n g e =
        sent_one (slot + 1) (Some (call_after s h)) (call_with true t h)
        (kept_call s t h a u g (written_fits s (place_of (value s 2) (pos 0) (length_of (value s 3))) (length_of (value s 3)) a))
kept_below sectors slot s t (instr.CallLocal distance) why r a u g e f = absurd (no_rule why f)
kept_below sectors slot s t instr.Exit why r a u g e f = tt
kept_below sectors slot s t (instr.Load n dst base distance) why r a u g e f =
    sent_one (slot + 1) (Some (load_after sectors s dst n base distance)) (with_value t dst (loosely_loaded_at t n base distance))
    (with_value_under s t dst (loaded_kind sectors s.groups (place_of (value s base) distance (byte_count n)) (byte_count n)) (loosely_loaded_at t n base distance) (kept_load sectors s t n base distance a u) u)
kept_below sectors slot s t (instr.LoadSigned n dst base distance) why r a u g e f =
    sent_one (slot + 1) (Some (with_value s dst (Num any_word))) (with_value t dst (Num any_word)) (with_value_under s t dst (Num any_word) (Num any_word) (under_self (Num any_word)) u)
kept_below sectors slot s t (instr.StoreImmediate n base distance x) why r a u g e f =
    let k = second s (source.Immediate x) in
    sent_one (slot + 1) (Some (store_after s k n base distance)) (loosely_stored t base distance (byte_count n))
    (kept_store s t k (byte_count n) base distance a u (stored_fits s k (place_of (value s base) distance (byte_count n)) (byte_count n) (second_fits s (source.Immediate x) r.2 a) a))
kept_below sectors slot s t (instr.Store n base distance src) why r a u g e f =
    sent_one (slot + 1) (Some (store_after s (value s src) n base distance)) (loosely_stored t base distance (byte_count n))
    (kept_store s t (value s src) (byte_count n) base distance a u (stored_fits s (value s src) (place_of (value s base) distance (byte_count n)) (byte_count n) (value_fits s src a) a))
kept_below sectors slot s t (instr.LoadImmediate dst x) why r a u g e f = absurd (no_rule why f)

-- where both break a rule

loose_call : (s t : Abstract) (h : Helper) → IsState s → StateUnder s t → first_failing (call_rules true t h) ≡ None → StateUnder (call_with true s h) (call_with true t h)
unfolding call_rules call_with
loose_call s t helper.Copy a u g =
    let long : has_length (value t 3) ≡ true = (two_tell cause.UnsetRegister cause.HelperArgument (are_words t (1 ∷ 2 ∷ 3 ∷ [])) (has_length (value t 3)) g).1 in
    let same : length_of (value s 3) ≡ length_of (value t 3) = (length_under (value s 3) (value t 3) (value_fits s 3 a) (value_under s t 3 u) long).1 in
    answered_under (loosely_stored s 2 (pos 0) (length_of (value s 3))) (loosely_stored t 2 (pos 0) (length_of (value t 3))) (answer_kind helper.Copy)
    (by_length (length_of (value s 3)) (length_of (value t 3)) same)
  where
    by_length : (n m : ℕ) → n ≡ m → StateUnder (loosely_stored s 2 (pos 0) n) (loosely_stored t 2 (pos 0) m)
    by_length n m e = rw (sym e) (loose_store s t 2 (pos 0) n a u (loose_fits s (place_of (value s 2) (pos 0) n) n a))
loose_call s t helper.Again a u g = answered_under s t (answer_kind helper.Again) u
loose_call s t helper.Report a u g = answered_under s t (answer_kind helper.Report) u
loose_call s t (helper.Query q) a u g = answered_under s t (answer_kind (helper.Query q)) u

loose_after_under : (sectors : ℕ) (s t : Abstract) (i : Instr) → IsInRange i → IsState s → IsState t → StateUnder s t → first_failing (guarded_rules t i) ≡ None
    → EdgeUnder (after_with true sectors s i) (after_with true sectors t i)
unfolding after_with rules_with
loose_after_under sectors s t (instr.Arithmetic w o dst from) r a b u g = with_value_under s t dst Word Word tt u
loose_after_under sectors s t (instr.Negate w dst) r a b u g = with_value_under s t dst Word Word tt u
loose_after_under sectors s t (instr.SignExtend x dst src) r a b u g = with_value_under s t dst Word Word tt u
loose_after_under sectors s t (instr.ByteOrder o n dst) r a b u g = with_value_under s t dst Word Word tt u
loose_after_under sectors s t (instr.Load n dst base distance) r a b u g =
    with_value_under s t dst (loosely_loaded_at s n base distance) (loosely_loaded_at t n base distance) (loose_load s t n base distance a u) u
loose_after_under sectors s t (instr.LoadSigned n dst base distance) r a b u g = with_value_under s t dst (Num any_word) (Num any_word) (under_self (Num any_word)) u
loose_after_under sectors s t (instr.StoreImmediate n base distance x) r a b u g =
    loose_store s t base distance (byte_count n) a u (loose_fits s (place_of (value s base) distance (byte_count n)) (byte_count n) a)
loose_after_under sectors s t (instr.Store n base distance src) r a b u g =
    loose_store s t base distance (byte_count n) a u (loose_fits s (place_of (value s base) distance (byte_count n)) (byte_count n) a)
loose_after_under sectors s t (instr.CallHelper number) r a b u g = by_helper (asked_of (cast_unsigned w32 number)) g
  where
    by_helper : (m : Option Helper) → first_failing (option_map_or (call_rules true t) m (check cause.UnknownHelper false ∷ [])) ≡ None
        → StateUnder (option_map_or (call_with true s) m (after_answer s (Num any_word))) (option_map_or (call_with true t) m (after_answer t (Num any_word)))
    by_helper None g = answered_under s t (Num any_word) u
    by_helper (Some h) g = loose_call s t h a u g
loose_after_under sectors s t (instr.Branch w c dst from distance) r a b u g = u
loose_after_under sectors s t instr.Exit r a b u g = u
loose_after_under sectors s t i r a b u g = after_mono sectors s t i r a b u refl

loose_below : (sectors slot : ℕ) (s t : Abstract) (i : Instr) → IsInRange i → IsState s → IsState t → StateUnder s t → first_failing (guarded_rules t i) ≡ None
    → SentUnder (passed_with true sectors s slot i) (passed_with true sectors t slot i)
unfolding passed_with edge_with after_with rules_with
loose_below sectors slot s t (instr.Branch w c dst from distance) r a b u g = inl (refl, u, inl (refl, u, tt))
loose_below sectors slot s t instr.Exit r a b u g = tt
loose_below sectors slot s t (instr.Jump distance) r a b u g = inl (refl, u, tt)
loose_below sectors slot s t (instr.LongJump distance) r a b u g = inl (refl, u, tt)
loose_below sectors slot s t (instr.CallLocal distance) r a b u g = passes_mono sectors slot s t (instr.CallLocal distance) r a b u refl
loose_below sectors slot s t (instr.LoadImmediate dst x) r a b u g = passes_mono sectors slot s t (instr.LoadImmediate dst x) r a b u refl
loose_below sectors slot s t i r a b u g = sent_under (slot + 1) (after_with true sectors s i) (after_with true sectors t i) (loose_after_under sectors s t i r a b u g)

pub guarded_passes_mono : GuardedPassesAreMonotone
guarded_passes_mono sectors slot s t i r a b u g = by_rule (first_failing (rules t i)) refl
  where
    by_smaller : (why : VerifierCause) (m : Option VerifierCause) → first_failing (rules t i) ≡ Some why → first_failing (rules s i) ≡ m
        → SentUnder (passed_with (is_some m) sectors s slot i) (passed_with true sectors t slot i)
    by_smaller why None f e = kept_below sectors slot s t i why r a u g e f
    by_smaller why (Some other) f e = loose_below sectors slot s t i r a b u g

    by_rule : (m : Option VerifierCause) → first_failing (rules t i) ≡ m
        → SentUnder (passed_with (is_some (first_failing (rules s i))) sectors s slot i) (passed_with (is_some m) sectors t slot i)
    by_rule None e = rw (rules_mono s t i r a b u e) (passes_mono sectors slot s t i r a b u e)
    by_rule (Some why) e = by_smaller why (first_failing (rules s i)) e refl
