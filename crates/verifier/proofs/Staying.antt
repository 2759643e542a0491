-- A table that is good under the rules without signed bounds is good under those with them: what is
-- passed on along each edge holds no more.
use Rattle.std.proofs.Common.{◌≡◌, ◌<◌, ◌≤◌, ℕ, zero, suc, ◌+◌, ◌*◌, ◌/◌, ◌%◌, ◌^◌, ◌==◌, nat_lt, ◌&&◌, not, Bool, true, false, if◌then◌else◌, IsTrue, ℤ, List, [], ◌∷◌, ◌++◌, map, get_or, Option, Some, None, refl, ◌∙◌, inl, ap, arith}
use Rattle.std.specs.Prelude.{set}
use Rattle.std.specs.Option.{option_map, option_map_or, option_and_then, option_or}
use Rattle.std.specs.Int.{cast_unsigned, w32}
use Rattle.helpers.specs.Helper.{asked_of}
use Rattle.std.proofs.lemmas.List.{length-map, length-set}
use Rattle.std.proofs.lemmas.Bool.Decides.{nat_tests}
use Rattle.bpf_isa.specs.declared.instr.Instr.{Instr}
use Rattle.bpf_isa.specs.declared.instr.Instr.TheVariants as instr
use Rattle.bpf_isa.specs.declared.instr.Source.{Source}
use Rattle.bpf_isa.specs.declared.instr.Source.TheVariants as source
use Rattle.bpf_isa.specs.declared.instr.Width.{Width}
use Rattle.bpf_isa.specs.declared.instr.Width.TheVariants as width
use Rattle.bpf_isa.specs.declared.instr.Operator.{Operator}
use Rattle.bpf_isa.specs.declared.instr.Size.{Size}
use Rattle.bpf_isa.specs.declared.instr.Operator.TheVariants as op
use Rattle.bpf_isa.specs.declared.instr.Condition.{Condition}
use Rattle.bpf_isa.specs.Spelling.{IsInRange, IsSourceInRange}
use Rattle.bpf_isa.specs.Program.{IsProgram}
use Rattle.bpf_isa.specs.Slots.{at, target_slot}
use Rattle.bpf_shape.specs.Again.{heads}
use Rattle.machine.specs.Memory.{byte_count}
use Rattle.intervals.specs.Spans.{Span, only, Within}
use Rattle.intervals.specs.Rounding.{round_span}
use Rattle.intervals.specs.SignedSpans.{SignedSpan, IsSignedSpan}
use Rattle.intervals.specs.Reducing.{Limits, limits, reduction, any_sign, LimitsWithin, IsWordLimits, IsLimits}
use Rattle.intervals.specs.Results.{result_of}
use Rattle.intervals.specs.Edges.{jump_edge, condition_edge, is_same}
use Rattle.intervals.specs.SignedResults.{signed_result_of, limits_result_of}
use Rattle.intervals.specs.SignedEdges.{both_of, signed_narrowed, limits_narrowed, limits_refined}
use Rattle.intervals.specs.SignedRounding.{round_limits, limits_rounded}
use Rattle.intervals.specs.Laws.{FitsWords, Shrinks, IsWordSpan}
use Rattle.intervals.specs.LimitLaws.{Related, BothWithin}
use Rattle.intervals.proofs.Digits.{rounded_fits, rounded_mono}
use Rattle.intervals.proofs.Edges.{narrowed_shrinks, refined_shrinks}
use Rattle.intervals.proofs.Reduced.{any_fits, reduced_twice, Whenever}
use Rattle.intervals.proofs.SignedSums.{signed_result_fits}
use Rattle.intervals.proofs.SignedOrders.{TwoOf, signed_narrowed_two}
use Rattle.intervals.proofs.SignedDigits.{rounded_is, widened_fits, limits_rounded_fits}
use Rattle.intervals.proofs.Outcomes.{any_holds}
use Rattle.intervals.proofs.CallerLemmas.{fitting, words_are_limits}
use Rattle.ranges.specs.declared.place.AccessPlace.{AccessPlace}
use Rattle.ranges.specs.declared.place.AccessPlace.TheVariants as place
use Rattle.ranges.specs.Kinds.{Kind, Unset, Word, Num, Ctx, Stack, Sector, SectorOrNull, is_pointer, is_unknown, round}
use Rattle.ranges.specs.Groups.{GroupKind, Spilled, map_places, round_group}
use Rattle.ranges.specs.States.{Abstract, round_state}
use Rattle.ranges.specs.Reading.{value, second, with_value, with_groups, words, any_word}
use Rattle.ranges.specs.Places.{place_of, is_group}
use Rattle.ranges.specs.Pointers.{moved_pointer}
use Rattle.ranges.specs.Rules.{is_null_test}
use Rattle.ranges.specs.After.{number_result, result_kind, is_touched, group_after, groups_after_write, stored_groups, load_after, after_answer, call_after, after_of, after_with}
use Rattle.ranges.specs.Passing.{edge_of, entry_state, is_equal_edge, tested_kind, with_both, passed_state, passes, edge_with, passed_with}
use Rattle.ranges.specs.Order.{Under, IsWord, GroupUnder, EachUnder, StateUnder, IsBounded, IsGroup, Each, IsState, Holds, EdgeUnder}
use Rattle.ranges.proofs.Covering.{state_same, state_under, each_mono, group_round_mono}
use Rattle.ranges.proofs.Fitting.{round_state_fits, round_fits, each_set, each_mapped, round_group_fits}
use Rattle.ranges.proofs.Keeping.{holds_or, words_fit, value_fits, second_fits, with_value_fits, with_groups_fits, register_fits, moved_kind_fits, places_fit, places_long, tested_fits, after_fits, edge_fits, entry_fits}
use Rattle.ranges.proofs.Joins.{round_mono}
use Rattle.ranges.proofs.Smaller.{with_value_under}
use Rattle.verifier.specs.Tables.{state_at, Covers, CoversAll, AreStates, sent_from, sent_with, passed_on_with, arriving, arrival}
use Rattle.verifier.specs.Good.{IsGood}
use Rattle.verifier.specs.Unsigned.{number, numbers, unsigned_computed, unsigned_result, unsigned_stored, unsigned_after, unsigned_edge, unsigned_passes, unsigned_round, unsigned_round_state, unsigned_arriving, unsigned_arrival, unsigned_passed_on, unsigned_sent_from, IsUnsignedGood}
use Rattle.ranges.proofs.Chains.{under_self, group_self, each_self, state_self, state_chain}
use Rattle.verifier.proofs.Reaching.{each_append, each_left, each_right, in_range}

spans_self : (u : Span) → Within u u
spans_self u = record { from = omega arith; upto = omega arith }

-- numbers: what is reduced has no more words than the range had before

reduced_below : (u : Span) (s : SignedSpan) → IsWordSpan u → IsSignedSpan s → Related LimitsWithin (reduction (limits u s)) (Some (any_sign u))
reduced_below u s hu hs = by (reduction (limits u s)) refl
  where
    by : (r : Option Limits) → reduction (limits u s) ≡ r → Related LimitsWithin r (Some (any_sign u))
    by None e = tt
    by (Some z) e =
        let settled = reduced_twice (limits u s) z (record { words = hu; readings = hs }) e in
        any_holds z u (record { words = settled.0.fits.words; readings = settled.0.fits.readings; reduced = settled.1 }) hu settled.0.within.unsigned

numbers_below : (r : Option Span) (s : SignedSpan) → FitsWords r → IsSignedSpan s
    → Related Under (option_map (λ x. Num x) (option_and_then (λ u. reduction (limits u s)) r)) (option_map number r)
numbers_below None s f hs = tt
numbers_below (Some u) s f hs = by (reduction (limits u s)) (reduced_below u s f hs)
  where
    by : (r : Option Limits) → Related LimitsWithin r (Some (any_sign u)) → Related Under (option_map (λ x. Num x) r) (Some (number u))
    by None h = tt
    by (Some z) h = h

computed_below : (i : Instr) (k l : Kind) → IsBounded k → IsBounded l → Related Under (number_result i k l) (unsigned_computed i k l)
unfolding limits_result_of
computed_below i k l h g =
    let x = words_fit k h in let y = words_fit l g in
    numbers_below (result_of i (words k).unsigned (words l).unsigned) (signed_result_of i (words k).signed (words l).signed)
    (fitting i (words k).unsigned (words l).unsigned x.words y.words) (signed_result_fits i (words k).signed (words l).signed x.readings y.readings)

moved_below : (m p q : Option Kind) → Related Under p q → Related Under (option_or m p) (option_or m q)
moved_below None p q h = h
moved_below (Some k) p q h = under_self k

result_below : (i : Instr) (k l : Kind) → IsBounded k → IsBounded l → Related Under (result_kind i k l) (unsigned_result i k l)
unfolding result_kind unsigned_result
result_below (instr.Arithmetic width.W64 op.Mov dst from) k l h g = under_self l
result_below (instr.Arithmetic width.W64 op.Add dst from) k l h g =
    moved_below (moved_pointer false k l) (number_result (instr.Arithmetic width.W64 op.Add dst from) k l) (unsigned_computed (instr.Arithmetic width.W64 op.Add dst from) k l)
    (computed_below (instr.Arithmetic width.W64 op.Add dst from) k l h g)
result_below (instr.Arithmetic width.W64 op.Sub dst from) k l h g =
    moved_below (moved_pointer true k l) (number_result (instr.Arithmetic width.W64 op.Sub dst from) k l) (unsigned_computed (instr.Arithmetic width.W64 op.Sub dst from) k l)
    (computed_below (instr.Arithmetic width.W64 op.Sub dst from) k l h g)
result_below (instr.Arithmetic width.W64 o dst from) k l h g = computed_below (instr.Arithmetic width.W64 o dst from) k l h g
result_below (instr.Arithmetic width.W32 o dst from) k l h g = computed_below (instr.Arithmetic width.W32 o dst from) k l h g
result_below i k l h g = computed_below i k l h g

-- the results are within their bounds

unsigned_fits : (i : Instr) (k l : Kind) → IsBounded k → IsBounded l → Holds IsBounded (unsigned_computed i k l)
unsigned_fits i k l h g = by (result_of i (words k).unsigned (words l).unsigned) (fitting i (words k).unsigned (words l).unsigned (words_fit k h).words (words_fit l g).words)
  where
    by : (r : Option Span) → FitsWords r → Holds IsBounded (option_map number r)
    by None f = tt
    by (Some u) f = any_fits u f

unsigned_result_fits : (i : Instr) (k l : Kind) → IsBounded k → IsBounded l → Holds IsBounded (unsigned_result i k l)
unfolding unsigned_result
unsigned_result_fits (instr.Arithmetic width.W64 op.Mov dst from) k l h g = g
unsigned_result_fits (instr.Arithmetic width.W64 op.Add dst from) k l h g =
    holds_or IsBounded (moved_pointer false k l) (unsigned_computed (instr.Arithmetic width.W64 op.Add dst from) k l) (moved_kind_fits false k l h g) (unsigned_fits (instr.Arithmetic width.W64 op.Add dst from) k l h g)
unsigned_result_fits (instr.Arithmetic width.W64 op.Sub dst from) k l h g =
    holds_or IsBounded (moved_pointer true k l) (unsigned_computed (instr.Arithmetic width.W64 op.Sub dst from) k l) (moved_kind_fits true k l h g) (unsigned_fits (instr.Arithmetic width.W64 op.Sub dst from) k l h g)
unsigned_result_fits (instr.Arithmetic width.W64 o dst from) k l h g = unsigned_fits (instr.Arithmetic width.W64 o dst from) k l h g
unsigned_result_fits (instr.Arithmetic width.W32 o dst from) k l h g = unsigned_fits (instr.Arithmetic width.W32 o dst from) k l h g
unsigned_result_fits i k l h g = unsigned_fits i k l h g

-- a register with a result

register_below : (s : Abstract) (r : ℕ) (m n : Option Kind) → Related Under m n → EdgeUnder (option_map (with_value s r) m) (option_map (with_value s r) n)
register_below s r None n h = tt
register_below s r (Some k) None h = absurd h
register_below s r (Some k) (Some l) h = with_value_under s s r k l h (state_self s)

-- stores: a number that is kept says more than eight written bytes

and_false : (b : Bool) → (b && false) ≡ false
and_false true = refl
and_false false = refl

out_after : (at n g : ℕ) → n ≡ 8 → at + 8 ≤ 8 * g → is_touched at n g ≡ false
out_after at n g e beyond = let past : nat_lt (8 * g) (at + n) ≡ false = grind (arith, nat_tests) in rw past (and_false (nat_lt at (8 * g + 8)))

out_before : (at n g : ℕ) → 8 * g + 8 ≤ at → is_touched at n g ≡ false
out_before at n g before = let past : nat_lt at (8 * g + 8) ≡ false = grind (arith, nat_tests) in rw past refl

touched_at : (at n g : ℕ) → n ≡ 8 → at ≡ 8 * g → is_touched at n g ≡ true
touched_at at n g e place =
    let from : nat_lt at (8 * g + 8) ≡ true = grind (arith, nat_tests) in
    let upto : nat_lt (8 * g) (at + n) ≡ true = grind (arith, nat_tests) in
    rw (from, upto) refl

untouched : (at n g : ℕ) (groups : List GroupKind) → n ≡ 8 → at + 8 ≤ 8 * g → EachUnder GroupUnder groups (map_places (group_after at n) g groups)
unfolding map_places group_after
untouched at n g [] e beyond = tt
untouched at n g (x ∷ xs) e beyond =
    (rw (out_after at n g e beyond) (group_self x), untouched at n (g + 1) xs e (omega (arith, beyond)))

kept_below : (at n i g : ℕ) (x : Limits) (groups : List GroupKind) → n ≡ 8 → at ≡ 8 * (g + i)
    → EachUnder GroupUnder (set groups i (Spilled (Num x))) (map_places (group_after at n) g groups)
unfolding map_places group_after
kept_below at n i g x [] e place = tt
kept_below at n zero g x (y ∷ ys) e place =
    (rw (touched_at at n g e (omega (arith, place))) (inl refl), untouched at n (g + 1) ys e (omega (arith, place)))
kept_below at n (suc i) g x (y ∷ ys) e place =
    (rw (out_before at n g (omega (arith, place))) (group_self y), kept_below at n i (g + 1) x ys e (omega (arith, place)))

group_place : (at n : ℕ) → is_group at n ≡ true → (n ≡ 8) × (at ≡ 8 * (0 + at / 8))
group_place at n e = by (n == 8) (at % 8 == 0) refl refl e
  where
    by : (a b : Bool) → (n == 8) ≡ a → (at % 8 == 0) ≡ b → (a && b) ≡ true → (n ≡ 8) × (at ≡ 8 * (0 + at / 8))
    by true true p q t =
        let eight : n ≡ 8 = grind (arith, nat_tests) in
        let none : at % 8 ≡ 0 = grind (arith, nat_tests) in
        (eight, omega (arith, none))
    by true false p q t = absurd (let bad : false ≡ true = t in cc)
    by false b p q t = absurd (let bad : false ≡ true = t in cc)

all_self : (groups : List GroupKind) → EachUnder GroupUnder groups groups
all_self groups = each_self GroupUnder group_self groups

stored_below : (k : Kind) (groups : List GroupKind) (p : AccessPlace) (n : ℕ) → EachUnder GroupUnder (stored_groups k groups p n) (unsigned_stored k groups p n)
unfolding stored_groups unsigned_stored groups_after_write
stored_below (Num x) groups (place.Stack at) n = by (is_group at n) refl
  where
    by : (b : Bool) → is_group at n ≡ b
        → EachUnder GroupUnder (if b then set groups (at / 8) (Spilled (Num x)) else map_places (group_after at n) 0 groups) (map_places (group_after at n) 0 groups)
    by true e = let h = group_place at n e in kept_below at n (at / 8) 0 x groups h.0 h.1
    by false e = all_self (map_places (group_after at n) 0 groups)
stored_below Unset groups (place.Stack at) n = all_self (map_places (group_after at n) 0 groups)
stored_below Word groups (place.Stack at) n = all_self (map_places (group_after at n) 0 groups)
stored_below (Ctx a) groups (place.Stack at) n = all_self (if is_group at n then set groups (at / 8) (Spilled (Ctx a)) else map_places (group_after at n) 0 groups)
stored_below (Stack a) groups (place.Stack at) n = all_self (if is_group at n then set groups (at / 8) (Spilled (Stack a)) else map_places (group_after at n) 0 groups)
stored_below (Sector a) groups (place.Stack at) n = all_self (if is_group at n then set groups (at / 8) (Spilled (Sector a)) else map_places (group_after at n) 0 groups)
stored_below SectorOrNull groups (place.Stack at) n = all_self (if is_group at n then set groups (at / 8) (Spilled SectorOrNull) else map_places (group_after at n) 0 groups)
stored_below k groups place.Outside n = all_self groups
stored_below k groups (place.Context at) n = all_self groups
stored_below k groups place.Sector n = all_self groups

store_below : (s : Abstract) (k : Kind) (p : AccessPlace) (n : ℕ) → StateUnder (with_groups s (stored_groups k s.groups p n)) (with_groups s (unsigned_stored k s.groups p n))
store_below s k p n = record { values = each_self Under under_self s.values; groups = stored_below k s.groups p n }

unsigned_store_fits : (s : Abstract) (k : Kind) (p : AccessPlace) (n : ℕ) → IsBounded k → IsState s → IsState (with_groups s (unsigned_stored k s.groups p n))
unfolding unsigned_stored groups_after_write
unsigned_store_fits s k (place.Stack at) n h a = by (is_pointer k) (is_group at n) refl
  where
    marked : IsState (with_groups s (map_places (group_after at n) 0 s.groups))
    marked = with_groups_fits s (map_places (group_after at n) 0 s.groups) a (places_fit at n 0 s.groups a.groups) (places_long at n 0 s.groups)

    known : (j : Kind) → is_pointer j ≡ true → IsTrue (not (is_unknown j))
    known Unset e = absurd (let bad : false ≡ true = e in cc)
    known Word e = absurd (let bad : false ≡ true = e in cc)
    known _ e = refl

    by : (b c : Bool) → is_pointer k ≡ b → IsState (with_groups s (if b && c then set s.groups (at / 8) (Spilled k) else map_places (group_after at n) 0 s.groups))
    by true true e =
        with_groups_fits s (set s.groups (at / 8) (Spilled k)) a (each_set IsGroup s.groups (at / 8) (Spilled k) (known k e, h) a.groups) (length-set s.groups (at / 8) (Spilled k))
    by true false e = marked
    by false c e = marked
unsigned_store_fits s k place.Outside n h a = a
unsigned_store_fits s k (place.Context at) n h a = a
unsigned_store_fits s k place.Sector n h a = a

-- edges

both_below : (u v : Span) (s t : SignedSpan) → IsWordSpan u → IsWordSpan v → IsSignedSpan s → IsSignedSpan t
    → Related BothWithin (both_of (reduction (limits u s)) (reduction (limits v t))) (Some (numbers (u, v)))
both_below u v s t hu hv hs ht = by (reduction (limits u s)) (reduction (limits v t)) (reduced_below u s hu hs) (reduced_below v t hv ht)
  where
    by : (p q : Option Limits) → Related LimitsWithin p (Some (any_sign u)) → Related LimitsWithin q (Some (any_sign v)) → Related BothWithin (both_of p q) (Some (numbers (u, v)))
    by None q h k = tt
    by (Some p) None h k = tt
    by (Some p) (Some q) h k = (h, k)

narrowed_below : (c : Condition) (taken : Bool) (x y : Limits) → IsWordLimits x → IsWordLimits y
    → Related BothWithin (limits_narrowed c taken x y) (option_map numbers (condition_edge c taken x.unsigned y.unsigned))
unfolding limits_narrowed
narrowed_below c taken x y hx hy =
    by (condition_edge c taken x.unsigned y.unsigned) (signed_narrowed c taken x.signed y.signed) (narrowed_shrinks c taken x.unsigned y.unsigned hx.words hy.words)
    (signed_narrowed_two c taken x.signed y.signed hx.readings hy.readings)
  where
    by : (o : Option (Span × Span)) (q : Option (SignedSpan × SignedSpan)) → Shrinks o x.unsigned y.unsigned → Whenever (TwoOf x.signed y.signed) q
        → Related BothWithin (option_and_then (λ u. option_and_then (λ s. both_of (reduction (limits u.0 s.0)) (reduction (limits u.1 s.1))) q) o) (option_map numbers o)
    by None q f h = tt
    by (Some u) None f h = tt
    by (Some u) (Some s) f h = both_below u.0 u.1 s.0 s.1 f.0 f.1 h.0 h.1

edge_numbers : (i : Instr) (taken : Bool) (x y : Limits) → IsLimits x → IsLimits y
    → Related BothWithin (limits_refined i taken x y) (option_map numbers (jump_edge i taken x.unsigned y.unsigned))
unfolding limits_refined jump_edge
edge_numbers (instr.Branch width.W64 c dst from distance) taken x y hx hy = by (is_same dst from)
  where
    by : (b : Bool) → Related BothWithin (if b then Some (x, y) else limits_narrowed c taken x y)
        (option_map numbers (if b then Some (x.unsigned, y.unsigned) else condition_edge c taken x.unsigned y.unsigned))
    by true = (any_holds x x.unsigned hx hx.words (spans_self x.unsigned), any_holds y y.unsigned hy hy.words (spans_self y.unsigned))
    by false = narrowed_below c taken x y (words_are_limits x hx) (words_are_limits y hy)
edge_numbers (instr.Branch width.W32 c dst from distance) taken x y hx hy = (any_holds x x.unsigned hx hx.words (spans_self x.unsigned), any_holds y y.unsigned hy hy.words (spans_self y.unsigned))
edge_numbers _ taken x y hx hy = (any_holds x x.unsigned hx hx.words (spans_self x.unsigned), any_holds y y.unsigned hy hy.words (spans_self y.unsigned))

both_edges : (s : Abstract) (dst : ℕ) (from : Source) (m n : Option (Limits × Limits)) → Related BothWithin m n → EdgeUnder (option_map (with_both s dst from) m) (option_map (with_both s dst from) n)
both_edges s dst from None n h = tt
both_edges s dst from (Some p) None h = absurd h
both_edges s dst (source.Immediate i) (Some p) (Some q) h = with_value_under s s dst (Num p.0) (Num q.0) h.0 (state_self s)
both_edges s dst (source.Register r) (Some p) (Some q) h =
    with_value_under (with_value s dst (Num p.0)) (with_value s dst (Num q.0)) r (Num p.1) (Num q.1) h.1 (with_value_under s s dst (Num p.0) (Num q.0) h.0 (state_self s))

mapped_twice : (s : Abstract) (dst : ℕ) (from : Source) (m : Option (Span × Span))
    → option_map (with_both s dst from) (option_map numbers m) ≡ option_map (λ p. with_both s dst from (numbers p)) m
mapped_twice s dst from None = refl
mapped_twice s dst from (Some p) = refl

edge_self : (m : Option Abstract) → EdgeUnder m m
edge_self None = tt
edge_self (Some s) = state_self s

edge_below : (s : Abstract) (i : Instr) (taken : Bool) → IsInRange i → IsState s → EdgeUnder (edge_of s i taken) (unsigned_edge s i taken)
unfolding edge_with unsigned_edge IsInRange
edge_below s (instr.Branch w c dst from distance) taken r a = by (is_null_test w c from (value s dst))
  where
    x : Limits
    x = words (value s dst)

    y : Limits
    y = words (second s from)

    i : Instr
    i = instr.Branch w c dst from distance

    by : (b : Bool) → EdgeUnder
        (if b then Some (with_value s dst (tested_kind (is_equal_edge c taken))) else option_map (with_both s dst from) (limits_refined i taken x y))
        (if b then Some (with_value s dst (tested_kind (is_equal_edge c taken))) else option_map (λ p. with_both s dst from (numbers p)) (jump_edge i taken x.unsigned y.unsigned))
    by true = state_self (with_value s dst (tested_kind (is_equal_edge c taken)))
    by false =
        rw (← mapped_twice s dst from (jump_edge i taken x.unsigned y.unsigned))
        (both_edges s dst from (limits_refined i taken x y) (option_map numbers (jump_edge i taken x.unsigned y.unsigned))
        (edge_numbers i taken x y (words_fit (value s dst) (value_fits s dst a)) (words_fit (second s from) (second_fits s from r.1 a))))
edge_below s (instr.Arithmetic w o dst from) taken r a = state_self s
edge_below s (instr.Negate w dst) taken r a = state_self s
edge_below s (instr.SignExtend e dst src) taken r a = state_self s
edge_below s (instr.ByteOrder o size dst) taken r a = state_self s
edge_below s (instr.Jump distance) taken r a = state_self s
edge_below s (instr.LongJump distance) taken r a = state_self s
edge_below s (instr.CallHelper n) taken r a = state_self s
edge_below s (instr.CallLocal distance) taken r a = state_self s
edge_below s instr.Exit taken r a = state_self s
edge_below s (instr.Load size dst base distance) taken r a = state_self s
edge_below s (instr.LoadSigned size dst base distance) taken r a = state_self s
edge_below s (instr.StoreImmediate size base distance n) taken r a = state_self s
edge_below s (instr.Store size base distance src) taken r a = state_self s
edge_below s (instr.LoadImmediate dst n) taken r a = state_self s

unsigned_both_fits : (s : Abstract) (dst : ℕ) (from : Source) (x y : Span) (m : Option (Span × Span)) → Shrinks m x y → IsState s
    → Holds IsState (option_map (λ p. with_both s dst from (numbers p)) m)
unsigned_both_fits s dst from x y None h a = tt
unsigned_both_fits s dst (source.Immediate n) x y (Some p) h a = with_value_fits s dst (number p.0) (any_fits p.0 h.0) a
unsigned_both_fits s dst (source.Register r) x y (Some p) h a =
    with_value_fits (with_value s dst (number p.0)) r (number p.1) (any_fits p.1 h.1) (with_value_fits s dst (number p.0) (any_fits p.0 h.0) a)

unsigned_edge_fits : (s : Abstract) (w : Width) (c : Condition) (dst : ℕ) (from : Source) (distance : ℤ) (taken : Bool) → IsSourceInRange from → IsState s
    → Holds IsState (unsigned_edge s (instr.Branch w c dst from distance) taken)
unfolding unsigned_edge
unsigned_edge_fits s w c dst from distance taken r a = by (is_null_test w c from (value s dst))
  where
    by : (b : Bool) → Holds IsState
        (if b then Some (with_value s dst (tested_kind (is_equal_edge c taken)))
        else option_map (λ p. with_both s dst from (numbers p)) (jump_edge (instr.Branch w c dst from distance) taken (words (value s dst)).unsigned (words (second s from)).unsigned))
    by true = with_value_fits s dst (tested_kind (is_equal_edge c taken)) (tested_fits (is_equal_edge c taken)) a
    by false =
        unsigned_both_fits s dst from (words (value s dst)).unsigned (words (second s from)).unsigned
        (jump_edge (instr.Branch w c dst from distance) taken (words (value s dst)).unsigned (words (second s from)).unsigned)
        (refined_shrinks (instr.Branch w c dst from distance) taken (words (value s dst)).unsigned (words (second s from)).unsigned
        (words_fit (value s dst) (value_fits s dst a)).words (words_fit (second s from) (second_fits s from r a)).words) a

-- rounding

spans_chain : (x y z : Span) → Within x y → Within y z → Within x z
spans_chain x y z p q = record { from = omega (arith, p.from, q.from); upto = omega (arith, p.upto, q.upto) }

-- what is rounded has no more words than its range has when that is rounded
rounded_words : (x : Limits) → IsLimits x → Within (limits_rounded x).unsigned (round_span x.unsigned)
rounded_words x h =
    let settled = reduced_twice (round_limits x) (limits_rounded x) (widened_fits x (words_are_limits x h)) (rounded_is x h).is in
    settled.0.within.unsigned

round_word : (k : Kind) → IsWord k → IsWord (round k)
unfolding round
round_word Unset p = absurd p
round_word Word p = tt
round_word (Num x) p = tt
round_word (Ctx a) p = tt
round_word (Stack a) p = tt
round_word (Sector x) p = tt
round_word SectorOrNull p = tt

round_below : (k l : Kind) → IsBounded k → IsBounded l → Under k l → Under (round k) (unsigned_round l)
unfolding round unsigned_round
round_below k Unset h g p = tt
round_below k Word h g p = round_word k p
round_below (Num x) (Num y) h g p =
    any_holds (limits_rounded x) (round_span y.unsigned) (limits_rounded_fits x h) (rounded_fits 64 y.unsigned (omega arith) g.words)
    (spans_chain (limits_rounded x).unsigned (round_span x.unsigned) (round_span y.unsigned) (rounded_words x h) (rounded_mono x.unsigned y.unsigned h.words g.words p.unsigned))
round_below k (Num y) h g p = absurd p
round_below (Ctx a) (Ctx b) h g p = p
round_below k (Ctx b) h g p = absurd p
round_below (Stack a) (Stack b) h g p = p
round_below k (Stack b) h g p = absurd p
round_below (Sector x) (Sector y) h g p = round_mono (Sector x) (Sector y) h g p
round_below k (Sector y) h g p = absurd p
round_below SectorOrNull SectorOrNull h g p = tt
round_below k SectorOrNull h g p = absurd p

unsigned_round_fits : (k : Kind) → IsBounded k → IsBounded (unsigned_round k)
unfolding unsigned_round
unsigned_round_fits (Num x) h = any_fits (round_span x.unsigned) (rounded_fits 64 x.unsigned (omega arith) h.words)
unsigned_round_fits Unset h = round_fits Unset h
unsigned_round_fits Word h = round_fits Word h
unsigned_round_fits (Ctx a) h = round_fits (Ctx a) h
unsigned_round_fits (Stack a) h = round_fits (Stack a) h
unsigned_round_fits (Sector x) h = round_fits (Sector x) h
unsigned_round_fits SectorOrNull h = round_fits SectorOrNull h

arriving_below : (b : Bool) (s t : Abstract) → IsState s → IsState t → StateUnder s t → StateUnder (if b then round_state s else s) (if b then unsigned_round_state t else t)
unfolding round_state unsigned_round_state
arriving_below true s t a c u = record {
  values = both_mapped s.values t.values a.values c.values u.values;
  groups = each_mono GroupUnder IsGroup round_group group_round_mono s.groups t.groups a.groups c.groups u.groups;
}
  where
    both_mapped : (xs ys : List Kind) → Each IsBounded xs → Each IsBounded ys → EachUnder Under xs ys → EachUnder Under (map round xs) (map unsigned_round ys)
    both_mapped [] [] a b p = tt
    both_mapped [] (y ∷ ys) a b p = absurd p
    both_mapped (x ∷ xs) [] a b p = absurd p
    both_mapped (x ∷ xs) (y ∷ ys) a b p = (round_below x y a.0 b.0 p.0, both_mapped xs ys a.1 b.1 p.1)
arriving_below false s t a c u = u

unsigned_arriving_fits : (b : Bool) (t : Abstract) → IsState t → IsState (if b then unsigned_round_state t else t)
unfolding unsigned_round_state
unsigned_arriving_fits true t c = record {
  values = each_mapped IsBounded unsigned_round unsigned_round_fits t.values c.values;
  groups = each_mapped IsGroup round_group round_group_fits t.groups c.groups;
  registers = length-map t.values unsigned_round ∙ c.registers;
  stack = length-map t.groups round_group ∙ c.stack;
}
unsigned_arriving_fits false t c = c

arriving_fits : (b : Bool) (s : Abstract) → IsState s → IsState (if b then round_state s else s)
arriving_fits true s a = round_state_fits s a
arriving_fits false s a = a

-- what is contained where it arrives

covers_less : (m : Option Abstract) (x y : Abstract) → Holds IsState m → IsState x → IsState y → StateUnder x y → Covers m y → Covers m x
covers_less None x y f a b u c = absurd c
covers_less (Some t) x y f a b u c = state_same t x f a (state_chain x y t u (state_under t y f b c))

abbrev IsCoveredAt : List (Option Abstract) → ℕ × Abstract → Type 0
IsCoveredAt table p = Covers (state_at table p.0) p.1

abbrev AreCovered : List Bool → List (Option Abstract) → List (ℕ × Abstract) → Type 0
AreCovered marks table arrivals = CoversAll table (map (arrival marks) arrivals)

abbrev WereCovered : List Bool → List (Option Abstract) → List (ℕ × Abstract) → Type 0
WereCovered marks table arrivals = CoversAll table (map (unsigned_arrival marks) arrivals)

sent_covered : (marks : List Bool) (table : List (Option Abstract)) (slot : ℕ) (m n : Option Abstract) → AreStates table → Holds IsState m → Holds IsState n → EdgeUnder m n
    → WereCovered marks table (passed_state slot n) → AreCovered marks table (passed_state slot m)
sent_covered marks table slot None n states f g u c = tt
sent_covered marks table slot (Some s) None states f g u c = absurd u
sent_covered marks table slot (Some s) (Some t) states f g u c = (
  covers_less (state_at table slot) (arriving marks slot s) (unsigned_arriving marks slot t) (states slot)
      (arriving_fits (get_or marks slot false) s f) (unsigned_arriving_fits (get_or marks slot false) t g)
      (arriving_below (get_or marks slot false) s t f g u) c.0,
  tt,
)

map_joined : {X Y : Type 0} (f : X → Y) (xs ys : List X) → map f (xs ++ ys) ≡ map f xs ++ map f ys
map_joined f [] ys = refl
map_joined f (x ∷ xs) ys = ap (λ zs. f x ∷ zs) (map_joined f xs ys)

two_covered : (marks : List Bool) (table : List (Option Abstract)) (a b : ℕ) (m n p q : Option Abstract) → AreStates table → Holds IsState m → Holds IsState n → EdgeUnder m n
    → Holds IsState p → Holds IsState q → EdgeUnder p q
    → WereCovered marks table (passed_state a n ++ passed_state b q) → AreCovered marks table (passed_state a m ++ passed_state b p)
two_covered marks table a b m n p q states fm fn u fp fq v c =
    let parts : CoversAll table (map (unsigned_arrival marks) (passed_state a n) ++ map (unsigned_arrival marks) (passed_state b q)) = rw (map_joined (unsigned_arrival marks) (passed_state a n) (passed_state b q)) at c in
    rw (map_joined (arrival marks) (passed_state a m) (passed_state b p))
    (each_append (IsCoveredAt table) (map (arrival marks) (passed_state a m)) (map (arrival marks) (passed_state b p))
    (sent_covered marks table a m n states fm fn u (each_left (IsCoveredAt table) (map (unsigned_arrival marks) (passed_state a n)) (map (unsigned_arrival marks) (passed_state b q)) parts))
    (sent_covered marks table b p q states fp fq v (each_right (IsCoveredAt table) (map (unsigned_arrival marks) (passed_state a n)) (map (unsigned_arrival marks) (passed_state b q)) parts)))

-- what an instruction passes on

branch_range : (w : Width) (c : Condition) (dst : ℕ) (from : Source) (distance : ℤ) → IsInRange (instr.Branch w c dst from distance) → IsSourceInRange from
unfolding IsInRange
branch_range w c dst from distance r = r.1

arithmetic_range : (w : Width) (o : Operator) (dst : ℕ) (from : Source) → IsInRange (instr.Arithmetic w o dst from) → IsSourceInRange from
unfolding IsInRange
arithmetic_range w o dst from r = r.1

constant_range : (size : Size) (base : ℕ) (distance n : ℤ) → IsInRange (instr.StoreImmediate size base distance n) → IsSourceInRange (source.Immediate n)
unfolding IsInRange
constant_range size base distance n r = r.2

after_below : (sectors : ℕ) (s : Abstract) (i : Instr) → IsInRange i → IsState s → EdgeUnder (after_of sectors s i) (unsigned_after sectors s i)
unfolding after_with unsigned_after IsInRange
after_below sectors s (instr.Arithmetic w o dst from) r a =
    let i = instr.Arithmetic w o dst from in
    register_below s dst (result_kind i (value s dst) (second s from)) (unsigned_result i (value s dst) (second s from))
    (result_below i (value s dst) (second s from) (value_fits s dst a) (second_fits s from r.1 a))
after_below sectors s (instr.Negate w dst) r a =
    register_below s dst (number_result (instr.Negate w dst) (value s dst) Unset) (unsigned_computed (instr.Negate w dst) (value s dst) Unset)
    (computed_below (instr.Negate w dst) (value s dst) Unset (value_fits s dst a) tt)
after_below sectors s (instr.SignExtend e dst src) r a =
    register_below s dst (number_result (instr.SignExtend e dst src) Unset (value s src)) (unsigned_computed (instr.SignExtend e dst src) Unset (value s src))
    (computed_below (instr.SignExtend e dst src) Unset (value s src) tt (value_fits s src a))
after_below sectors s (instr.ByteOrder o size dst) r a =
    register_below s dst (number_result (instr.ByteOrder o size dst) (value s dst) Unset) (unsigned_computed (instr.ByteOrder o size dst) (value s dst) Unset)
    (computed_below (instr.ByteOrder o size dst) (value s dst) Unset (value_fits s dst a) tt)
after_below sectors s (instr.StoreImmediate size base distance n) r a =
    store_below s (second s (source.Immediate n)) (place_of (value s base) distance (byte_count size)) (byte_count size)
after_below sectors s (instr.Store size base distance src) r a = store_below s (value s src) (place_of (value s base) distance (byte_count size)) (byte_count size)
after_below sectors s (instr.Load size dst base distance) r a = state_self (load_after sectors s dst size base distance)
after_below sectors s (instr.LoadSigned size dst base distance) r a = state_self (with_value s dst (Num any_word))
after_below sectors s (instr.LoadImmediate dst n) r a = state_self (with_value s dst (Num (any_sign (only n))))
after_below sectors s (instr.CallHelper n) r a = state_self (option_map_or (call_after s) (asked_of (cast_unsigned w32 n)) (after_answer s (Num any_word)))
after_below sectors s (instr.CallLocal distance) r a = state_self (after_answer s (Num any_word))
after_below sectors s (instr.Jump distance) r a = state_self s
after_below sectors s (instr.LongJump distance) r a = state_self s
after_below sectors s (instr.Branch w c dst from distance) r a = state_self s
after_below sectors s instr.Exit r a = state_self s

unsigned_after_fits : (sectors : ℕ) (s : Abstract) (i : Instr) → sectors < 2 ^ 64 → IsInRange i → IsState s → Holds IsState (unsigned_after sectors s i)
unfolding unsigned_after
unsigned_after_fits sectors s (instr.Arithmetic w o dst from) few r a =
    let i = instr.Arithmetic w o dst from in
    register_fits s dst (unsigned_result i (value s dst) (second s from)) (unsigned_result_fits i (value s dst) (second s from) (value_fits s dst a) (second_fits s from (arithmetic_range w o dst from r) a)) a
unsigned_after_fits sectors s (instr.Negate w dst) few r a =
    register_fits s dst (unsigned_computed (instr.Negate w dst) (value s dst) Unset) (unsigned_fits (instr.Negate w dst) (value s dst) Unset (value_fits s dst a) tt) a
unsigned_after_fits sectors s (instr.SignExtend e dst src) few r a =
    register_fits s dst (unsigned_computed (instr.SignExtend e dst src) Unset (value s src)) (unsigned_fits (instr.SignExtend e dst src) Unset (value s src) tt (value_fits s src a)) a
unsigned_after_fits sectors s (instr.ByteOrder o size dst) few r a =
    register_fits s dst (unsigned_computed (instr.ByteOrder o size dst) (value s dst) Unset) (unsigned_fits (instr.ByteOrder o size dst) (value s dst) Unset (value_fits s dst a) tt) a
unsigned_after_fits sectors s (instr.StoreImmediate size base distance n) few r a =
    unsigned_store_fits s (second s (source.Immediate n)) (place_of (value s base) distance (byte_count size)) (byte_count size) (second_fits s (source.Immediate n) (constant_range size base distance n r) a) a
unsigned_after_fits sectors s (instr.Store size base distance src) few r a =
    unsigned_store_fits s (value s src) (place_of (value s base) distance (byte_count size)) (byte_count size) (value_fits s src a) a
unsigned_after_fits sectors s i few r a = after_fits sectors s i few r a

after_covered : (marks : List Bool) (table : List (Option Abstract)) (sectors slot : ℕ) (s : Abstract) (i : Instr) → sectors < 2 ^ 64 → AreStates table → IsInRange i → IsState s
    → WereCovered marks table (passed_state (slot + 1) (unsigned_after sectors s i)) → AreCovered marks table (passed_state (slot + 1) (after_of sectors s i))
after_covered marks table sectors slot s i few states r a covered =
    sent_covered marks table (slot + 1) (after_of sectors s i) (unsigned_after sectors s i) states (after_fits sectors s i few r a) (unsigned_after_fits sectors s i few r a) (after_below sectors s i r a) covered

same_covered : (marks : List Bool) (table : List (Option Abstract)) (sectors slot : ℕ) (s : Abstract) (i : Instr) → sectors < 2 ^ 64 → AreStates table → IsInRange i → IsState s
    → WereCovered marks table (passed_state slot (after_of sectors s i)) → AreCovered marks table (passed_state slot (after_of sectors s i))
same_covered marks table sectors slot s i few states r a covered =
    let m = after_of sectors s i in let f = after_fits sectors s i few r a in
    sent_covered marks table slot m m states f f (edge_self m) covered

passes_covered : (marks : List Bool) (table : List (Option Abstract)) (sectors slot : ℕ) (s : Abstract) (i : Instr) → sectors < 2 ^ 64 → AreStates table → IsInRange i → IsState s
    → WereCovered marks table (unsigned_passes sectors s slot i) → AreCovered marks table (passes sectors s slot i)
unfolding passed_with unsigned_passes
passes_covered marks table sectors slot s (instr.Branch w c dst from distance) few states r a covered =
    two_covered marks table (slot + 1) (target_slot slot distance) (edge_of s (instr.Branch w c dst from distance) false) (unsigned_edge s (instr.Branch w c dst from distance) false)
    (edge_of s (instr.Branch w c dst from distance) true) (unsigned_edge s (instr.Branch w c dst from distance) true) states
    (edge_fits s (instr.Branch w c dst from distance) false r a) (unsigned_edge_fits s w c dst from distance false (branch_range w c dst from distance r) a) (edge_below s (instr.Branch w c dst from distance) false r a)
    (edge_fits s (instr.Branch w c dst from distance) true r a) (unsigned_edge_fits s w c dst from distance true (branch_range w c dst from distance r) a) (edge_below s (instr.Branch w c dst from distance) true r a) covered
passes_covered marks table sectors slot s (instr.Arithmetic w o dst from) few states r a covered = after_covered marks table sectors slot s (instr.Arithmetic w o dst from) few states r a covered
passes_covered marks table sectors slot s (instr.Negate w dst) few states r a covered = after_covered marks table sectors slot s (instr.Negate w dst) few states r a covered
passes_covered marks table sectors slot s (instr.SignExtend e dst src) few states r a covered = after_covered marks table sectors slot s (instr.SignExtend e dst src) few states r a covered
passes_covered marks table sectors slot s (instr.ByteOrder o size dst) few states r a covered = after_covered marks table sectors slot s (instr.ByteOrder o size dst) few states r a covered
passes_covered marks table sectors slot s (instr.StoreImmediate size base distance n) few states r a covered = after_covered marks table sectors slot s (instr.StoreImmediate size base distance n) few states r a covered
passes_covered marks table sectors slot s (instr.Store size base distance src) few states r a covered = after_covered marks table sectors slot s (instr.Store size base distance src) few states r a covered
passes_covered marks table sectors slot s (instr.Jump distance) few states r a covered = sent_covered marks table (target_slot slot distance) (Some s) (Some s) states a a (state_self s) covered
passes_covered marks table sectors slot s (instr.LongJump distance) few states r a covered = sent_covered marks table (target_slot slot distance) (Some s) (Some s) states a a (state_self s) covered
passes_covered marks table sectors slot s instr.Exit few states r a covered = tt
passes_covered marks table sectors slot s (instr.CallLocal distance) few states r a covered =
    let m = after_of sectors s (instr.CallLocal distance) in
    let f = after_fits sectors s (instr.CallLocal distance) few r a in
    two_covered marks table (slot + 1) (target_slot slot distance) m m (Some (entry_state s)) (Some (entry_state s)) states f f (edge_self m) (entry_fits s a) (entry_fits s a) (state_self (entry_state s)) covered
passes_covered marks table sectors slot s (instr.LoadImmediate dst n) few states r a covered = same_covered marks table sectors (slot + 2) s (instr.LoadImmediate dst n) few states r a covered
passes_covered marks table sectors slot s (instr.CallHelper n) few states r a covered = same_covered marks table sectors (slot + 1) s (instr.CallHelper n) few states r a covered
passes_covered marks table sectors slot s (instr.Load size dst base distance) few states r a covered = same_covered marks table sectors (slot + 1) s (instr.Load size dst base distance) few states r a covered
passes_covered marks table sectors slot s (instr.LoadSigned size dst base distance) few states r a covered = same_covered marks table sectors (slot + 1) s (instr.LoadSigned size dst base distance) few states r a covered

at_covered : (program : List (Option Instr)) (sectors : ℕ) (table : List (Option Abstract)) (slot : ℕ) → sectors < 2 ^ 64 → IsProgram program → AreStates table
    → CoversAll table (unsigned_sent_from program sectors table slot) → CoversAll table (sent_from program sectors table slot)
unfolding sent_with unsigned_sent_from
at_covered program sectors table slot few made states covered = by (at program slot) (state_at table slot) refl (states slot) covered
  where
    by : (i : Option Instr) (s : Option Abstract) → at program slot ≡ i → Holds IsState s → CoversAll table (unsigned_passed_on (heads program) sectors slot i s)
        → CoversAll table (passed_on_with false (heads program) sectors slot i s)
    by None s e a c = tt
    by (Some i) None e a c = tt
    by (Some i) (Some s) e a c = passes_covered (heads program) table sectors slot s i few states (in_range program slot i made e) a c

pub good_stays : (program : List (Option Instr)) (sectors : ℕ) (table : List (Option Abstract)) → sectors < 2 ^ 64 → IsProgram program
    → IsUnsignedGood program sectors table → IsGood program sectors table
good_stays program sectors table few made good = record {
  states = good.states;
  long = good.long;
  start = good.start;
  slots = λ slot. record { rules = (good.slots slot).rules; edges = at_covered program sectors table slot few made good.states (good.slots slot).edges };
}
