-- The bounds are kept by instructions.
use Rattle.std.proofs.Common.{◌≡◌, ℕ, zero, suc, ◌+◌, ◌-◌, ◌/◌, ◌^◌, ◌<◌, ◌≤◌, ◌==◌, nat_le, ◌&&◌, ◌||◌, Bool, true, false, if◌then◌else◌, ℤ, pos, negsuc, ◌+ℤ◌, ◌-ℤ◌, ◌≤ℤ◌, List, [], ◌∷◌, length, get_or, Option, None, Some, refl, ◌∙◌, arith}
use Rattle.std.specs.Prelude.{set, not}
use Rattle.std.specs.Option.{option_map, option_map_or, option_and_then, option_or}
use Rattle.std.specs.Int.{cast_unsigned, w32}
use Rattle.std.proofs.lemmas.Int.{ints}
use Rattle.std.proofs.lemmas.List.{length-set}
use Rattle.std.proofs.lemmas.Bool.Decides.{nat_tests}
use Rattle.bpf_isa.specs.declared.instr.Instr.{Instr}
use Rattle.bpf_isa.specs.declared.instr.Instr.TheVariants as instr
use Rattle.bpf_isa.specs.Spelling.{IsInRange, IsSourceInRange}
use Rattle.intervals.proofs.Signs.{sized_most}
use Rattle.bpf_isa.specs.declared.instr.Source.{Source}
use Rattle.bpf_isa.specs.declared.instr.Source.TheVariants as source
use Rattle.bpf_isa.specs.declared.instr.Width.TheVariants as width
use Rattle.bpf_isa.specs.declared.instr.Operator.TheVariants as op
use Rattle.bpf_isa.specs.declared.instr.Size.{Size}
use Rattle.bpf_isa.specs.declared.instr.Size.TheVariants as size
use Rattle.helpers.specs.declared.helper.Helper.{Helper}
use Rattle.helpers.specs.declared.helper.Helper.TheVariants as helper
use Rattle.helpers.specs.declared.helper.Answer.{Answer}
use Rattle.helpers.specs.declared.helper.Answer.TheVariants as answer
use Rattle.helpers.specs.Helper.{asked_of}
use Rattle.helpers.specs.Queries.{query_kind, IsKind}
use Rattle.helpers.proofs.Queries.{kind_fits}
use Rattle.machine.specs.Memory.{byte_count}
use Rattle.intervals.specs.Spans.{Span, span, only, is_constant, IsSpan}
use Rattle.intervals.specs.Seen.{immediate_span}
use Rattle.intervals.specs.Reducing.{Limits, IsLimits, any_sign}
use Rattle.intervals.specs.SignedResults.{limits_result_of}
use Rattle.intervals.specs.SignedEdges.{limits_refined}
use Rattle.intervals.proofs.Reduced.{any_fits}
use Rattle.intervals.proofs.Outcomes.{refined_fits}
use Rattle.intervals.proofs.CallerLemmas.{limits_fit, words_are_limits}
use Rattle.ranges.specs.declared.place.AccessPlace.{AccessPlace}
use Rattle.ranges.specs.declared.place.AccessPlace.TheVariants as place
use Rattle.ranges.specs.Kinds.{Kind, Unset, Num, Ctx, Stack, Sector, is_unknown}
use Rattle.ranges.specs.Groups.{GroupKind, Marked, Spilled, map_places}
use Rattle.ranges.specs.States.{Abstract, start}
use Rattle.ranges.specs.Pointers.{offset_in, offsets_in, moved_offset, moved_place, moved_offsets, moved_pointer}
use Rattle.ranges.specs.Reading.{value, second, with_value, with_groups, words, any_word}
use Rattle.ranges.specs.Places.{place_of, is_group}
use Rattle.ranges.specs.Rules.{length_of, is_null_test}
use Rattle.ranges.specs.Passing.{edge_of, with_both, tested_kind, is_equal_edge, argument_kind, entry_state, edge_with}
use Rattle.ranges.specs.After.{number_result, result_kind, context_word, any_of, group_value, loaded_kind, is_touched, marks_after, group_after, groups_after_write, written_at, stored_groups, kind_answered, answer_kind, after_answer, copied_state, call_after, after_of, after_with, call_with}
use Rattle.ranges.specs.Order.{IsBounded, IsGroup, Each, IsState, Holds}
use Rattle.ranges.proofs.Fitting.{each_set, each_get, start_fits}

holds_if : {X : Type 0} (P : X → Type 0) (b : Bool) (x : X) → (b ≡ true → P x) → Holds P (if b then Some x else None)
holds_if P true x f = f refl
holds_if P false x f = tt

pub holds_map : {X Y : Type 0} (P : X → Type 0) (Q : Y → Type 0) (f : X → Y) → ((x : X) → P x → Q (f x)) → (m : Option X) → Holds P m → Holds Q (option_map f m)
holds_map P Q f g None h = tt
holds_map P Q f g (Some x) h = g x h

pub holds_or : {X : Type 0} (P : X → Type 0) (m n : Option X) → Holds P m → Holds P n → Holds P (option_or m n)
holds_or P None n h e = e
holds_or P (Some x) n h e = h

-- what holds of whatever an option is
pub holds_of : {X : Type 0} (P : X → Type 0) (m : Option X) → ((x : X) → m ≡ Some x → P x) → Holds P m
holds_of P None f = tt
holds_of P (Some x) f = f x refl

-- pointers that move

offset_fits : (limit : ℕ) (z : ℤ) → Holds (λ n. n ≤ limit) (offset_in limit z)
offset_fits limit (pos n) = holds_if (λ m. m ≤ limit) (nat_le n limit) n (λ t. grind (arith, nat_tests))
offset_fits limit (negsuc n) = tt

place_fits : (limit : ℕ) (down : Bool) (o : ℕ) (y : Span) → Holds (λ n. n ≤ limit) (moved_place limit down o y)
unfolding moved_place
place_fits limit down o y = by_test (is_constant y)
  where
    by_test : (b : Bool) → Holds (λ n. n ≤ limit) (if b then offset_in limit (moved_offset down o y) else None)
    by_test true = offset_fits limit (moved_offset down o y)
    by_test false = tt

-- numbers

-- the words of a range, whatever their readings are
up_to_fits : (low high : ℕ) → low ≤ high → high < 2 ^ 64 → IsBounded (Num (any_sign (span low high)))
up_to_fits low high h k = any_fits (span low high) (record { ordered = h; most = omega (arith, k) })

pub any_word_fits : IsLimits any_word
any_word_fits = up_to_fits 0 (2 ^ 64 - 1) (omega arith) (omega arith)

pub words_fit : (k : Kind) → IsBounded k → IsLimits (words k)
words_fit (Num x) h = h
words_fit _ h = any_word_fits

computed_fits : (i : Instr) (k l : Kind) → IsBounded k → IsBounded l → Holds IsBounded (number_result i k l)
computed_fits i k l h g =
    holds_map IsLimits IsBounded (λ x. Num x) (λ x e. e) (limits_result_of i (words k) (words l))
    (holds_of IsLimits (limits_result_of i (words k) (words l))
    (λ x e. limits_fit i (words k) (words l) x (words_are_limits (words k) (words_fit k h)) (words_are_limits (words l) (words_fit l g)) e))

-- loads

pub any_of_fits : (s : Size) → IsBounded (any_of (byte_count s))
any_of_fits size.Byte = up_to_fits 0 (2 ^ 8 - 1) (omega arith) (omega arith)
any_of_fits size.Half = up_to_fits 0 (2 ^ 16 - 1) (omega arith) (omega arith)
any_of_fits size.Word = up_to_fits 0 (2 ^ 32 - 1) (omega arith) (omega arith)
any_of_fits size.Double = up_to_fits 0 (2 ^ 64 - 1) (omega arith) (omega arith)

group_value_fits : (g : GroupKind) → IsGroup g → IsBounded (group_value g)
group_value_fits (Marked marks) h = any_of_fits size.Double
group_value_fits (Spilled k) h = h.1

-- the value of a group of a stack, whatever stands for one that isn't there
group_at : (groups : List GroupKind) (i : ℕ) → Each IsGroup groups → IsBounded (group_value (get_or groups i (Marked [])))
group_at [] i a = any_of_fits size.Double
group_at (g ∷ groups) zero a = group_value_fits g a.0
group_at (g ∷ groups) (suc i) a = group_at groups i a.1

-- states

pub with_value_fits : (s : Abstract) (r : ℕ) (k : Kind) → IsBounded k → IsState s → IsState (with_value s r k)
with_value_fits s r k h a = record {
  values = each_set IsBounded s.values r k h a.values;
  groups = a.groups;
  registers = length-set s.values r k ∙ a.registers;
  stack = a.stack;
}

pub value_fits : (s : Abstract) (r : ℕ) → IsState s → IsBounded (value s r)
value_fits s r a = each_get IsBounded s.values r Unset tt a.values

-- offsets in a sector

offsets_fit : (a b : ℤ) → a ≤ℤ b → Holds (λ x. IsSpan 65535 x) (offsets_in 65535 a b)
offsets_fit (negsuc m) b h = tt
offsets_fit (pos m) (negsuc n) h = by_low (nat_le m 65535)
  where
    by_low : (c : Bool) → Holds (λ x. IsSpan 65535 x) (option_and_then (λ low. None) (if c then Some m else None))
    by_low true = tt
    by_low false = tt
offsets_fit (pos m) (pos n) h = by_both (nat_le m 65535) (nat_le n 65535) refl
  where
    by_both : (c d : Bool) → nat_le n 65535 ≡ d → Holds (λ x. IsSpan 65535 x) (option_and_then (λ low. option_map (λ high. span low high) (if d then Some n else None)) (if c then Some m else None))
    by_both true true e = record { ordered = omega (arith, ints); most = grind (arith, nat_tests) }
    by_both true false e = tt
    by_both false d e = tt

moved_fit : (down : Bool) (x y : Span) → IsSpan 65535 x → IsSpan (2 ^ 64 - 1) y → Holds (λ z. IsSpan 65535 z) (moved_offsets down x y)
unfolding moved_offsets
moved_fit down x y h g = by_kind (is_constant y) (nat_le y.high 65535) down
  where
    constant : (d : Bool) → moved_offset d x.low y ≤ℤ moved_offset d x.high y
    constant true = let o = h.ordered in omega (arith, ints)
    constant false = let o = h.ordered in omega (arith, ints)

    by_way : (d : Bool) → Holds (λ z. IsSpan 65535 z)
        (if d then offsets_in 65535 (pos x.low -ℤ pos y.high) (pos x.high -ℤ pos y.low)
        else offsets_in 65535 (pos x.low +ℤ pos y.low) (pos x.high +ℤ pos y.high))
    by_way true = let o = h.ordered in let p = g.ordered in offsets_fit (pos x.low -ℤ pos y.high) (pos x.high -ℤ pos y.low) (omega (arith, ints))
    by_way false = let o = h.ordered in let p = g.ordered in offsets_fit (pos x.low +ℤ pos y.low) (pos x.high +ℤ pos y.high) (omega (arith, ints))

    by_kind : (b c d : Bool) → Holds (λ z. IsSpan 65535 z)
        (if b then offsets_in 65535 (moved_offset d x.low y) (moved_offset d x.high y)
        else if c then (if d then offsets_in 65535 (pos x.low -ℤ pos y.high) (pos x.high -ℤ pos y.low)
        else offsets_in 65535 (pos x.low +ℤ pos y.low) (pos x.high +ℤ pos y.high))
        else None)
    by_kind true c d = offsets_fit (moved_offset d x.low y) (moved_offset d x.high y) (constant d)
    by_kind false true d = by_way d
    by_kind false false d = tt

pub moved_kind_fits : (down : Bool) (k l : Kind) → IsBounded k → IsBounded l → Holds IsBounded (moved_pointer down k l)
unfolding moved_pointer
moved_kind_fits down (Ctx o) (Num y) h g = holds_map (λ n. n ≤ 32) IsBounded (λ p. Ctx p) (λ n e. e) (moved_place 32 down o y.unsigned) (place_fits 32 down o y.unsigned)
moved_kind_fits down (Stack o) (Num y) h g = holds_map (λ n. n ≤ 512) IsBounded (λ p. Stack p) (λ n e. e) (moved_place 512 down o y.unsigned) (place_fits 512 down o y.unsigned)
moved_kind_fits down (Sector x) (Num y) h g = holds_map (λ z. IsSpan 65535 z) IsBounded (λ z. Sector z) (λ z e. e) (moved_offsets down x y.unsigned) (moved_fit down x y.unsigned h g.words)
moved_kind_fits down _ _ h g = tt

-- the results of arithmetic, one case for each form that result_kind knows
result_fits : (i : Instr) (k l : Kind) → IsBounded k → IsBounded l → Holds IsBounded (result_kind i k l)
unfolding result_kind
result_fits (instr.Arithmetic width.W64 op.Mov dst from) k l h g = g
result_fits (instr.Arithmetic width.W64 op.Add dst from) k l h g =
    holds_or IsBounded (moved_pointer false k l) (number_result (instr.Arithmetic width.W64 op.Add dst from) k l) (moved_kind_fits false k l h g) (computed_fits (instr.Arithmetic width.W64 op.Add dst from) k l h g)
result_fits (instr.Arithmetic width.W64 op.Sub dst from) k l h g =
    holds_or IsBounded (moved_pointer true k l) (number_result (instr.Arithmetic width.W64 op.Sub dst from) k l) (moved_kind_fits true k l h g) (computed_fits (instr.Arithmetic width.W64 op.Sub dst from) k l h g)
result_fits (instr.Arithmetic width.W64 o dst from) k l h g = computed_fits (instr.Arithmetic width.W64 o dst from) k l h g
result_fits (instr.Arithmetic width.W32 o dst from) k l h g = computed_fits (instr.Arithmetic width.W32 o dst from) k l h g
result_fits i k l h g = computed_fits i k l h g

-- loads and stores

word_fits : (sectors at : ℕ) → sectors < 2 ^ 64 → IsBounded (context_word sectors at)
word_fits sectors at h = by_place (at == 0) (at == 8) (at == 16)
  where
    by_place : (a b c : Bool) → IsBounded (if a then Num (any_sign (only sectors)) else if b || c then Num (any_sign (span 0 65536)) else Num (any_sign (only 0)))
    by_place true b c = up_to_fits sectors sectors (omega arith) h
    by_place false true c = up_to_fits 0 65536 (omega arith) (omega arith)
    by_place false false true = up_to_fits 0 65536 (omega arith) (omega arith)
    by_place false false false = up_to_fits 0 0 (omega arith) (omega arith)

loaded_fits : (sectors : ℕ) (groups : List GroupKind) (p : AccessPlace) (s : Size) → sectors < 2 ^ 64 → Each IsGroup groups
    → IsBounded (loaded_kind sectors groups p (byte_count s))
unfolding loaded_kind
loaded_fits sectors groups (place.Context at) s h a = by_test (is_group at (byte_count s))
  where
    by_test : (b : Bool) → IsBounded (if b then context_word sectors at else any_of (byte_count s))
    by_test true = word_fits sectors at h
    by_test false = any_of_fits s
loaded_fits sectors groups (place.Stack at) s h a = by_test (is_group at (byte_count s))
  where
    by_test : (b : Bool) → IsBounded (if b then group_value (get_or groups (at / 8) (Marked [])) else any_of (byte_count s))
    by_test true = group_at groups (at / 8) a
    by_test false = any_of_fits s
loaded_fits sectors groups place.Outside s h a = any_of_fits s
loaded_fits sectors groups place.Sector s h a = any_of_fits s

pub with_groups_fits : (s : Abstract) (groups : List GroupKind) → IsState s → Each IsGroup groups → length groups ≡ length s.groups → IsState (with_groups s groups)
with_groups_fits s groups a h e = record { values = a.values; groups = h; registers = a.registers; stack = e ∙ a.stack }

group_after_fits : (at n g : ℕ) (group : GroupKind) → IsGroup group → IsGroup (group_after at n g group)
unfolding group_after
group_after_fits at n g group h = by_test (is_touched at n g)
  where
    by_test : (b : Bool) → IsGroup (if b then Marked (marks_after at n g group) else group)
    by_test true = refl
    by_test false = h

pub places_fit : (at n g : ℕ) (groups : List GroupKind) → Each IsGroup groups → Each IsGroup (map_places (group_after at n) g groups)
unfolding map_places
places_fit at n g [] a = tt
places_fit at n g (x ∷ xs) a = (group_after_fits at n g x a.0, places_fit at n (g + 1) xs a.1)

pub places_long : (at n g : ℕ) (groups : List GroupKind) → length (map_places (group_after at n) g groups) ≡ length groups
unfolding map_places
places_long at n g [] = refl
places_long at n g (x ∷ xs) = let rest = places_long at n (g + 1) xs in omega (arith, rest)

pub written_fits : (s : Abstract) (p : AccessPlace) (n : ℕ) → IsState s → IsState (with_groups s (written_at s.groups p n))
unfolding groups_after_write
written_fits s (place.Stack at) n a = with_groups_fits s (map_places (group_after at n) 0 s.groups) a (places_fit at n 0 s.groups a.groups) (places_long at n 0 s.groups)
written_fits s place.Outside n a = a
written_fits s (place.Context at) n a = a
written_fits s place.Sector n a = a

pub stored_fits : (s : Abstract) (k : Kind) (p : AccessPlace) (n : ℕ) → IsBounded k → IsState s → IsState (with_groups s (stored_groups k s.groups p n))
unfolding stored_groups
stored_fits s k (place.Stack at) n h a = by_test (not (is_unknown k)) (is_group at n) refl
  where
    by_test : (b c : Bool) → not (is_unknown k) ≡ b → IsState (with_groups s (if b && c then set s.groups (at / 8) (Spilled k) else groups_after_write at n s.groups))
    by_test true true e = with_groups_fits s (set s.groups (at / 8) (Spilled k)) a (each_set IsGroup s.groups (at / 8) (Spilled k) (e, h) a.groups) (length-set s.groups (at / 8) (Spilled k))
    by_test true false e = written_fits s (place.Stack at) n a
    by_test false c e = written_fits s (place.Stack at) n a
stored_fits s k place.Outside n h a = a
stored_fits s k (place.Context at) n h a = a
stored_fits s k place.Sector n h a = a

-- helpers

kind_bounded : (a : Answer) → IsKind a → IsBounded (kind_answered a)
kind_bounded answer.Address h = tt
kind_bounded (answer.UpTo most) h = up_to_fits 0 most (omega arith) h

pub answer_fits : (h : Helper) → IsBounded (answer_kind h)
answer_fits (helper.Query q) = kind_bounded (query_kind q) (kind_fits q)
answer_fits helper.Copy = up_to_fits 0 1 (omega arith) (omega arith)
answer_fits helper.Again = up_to_fits 0 1 (omega arith) (omega arith)
answer_fits helper.Report = up_to_fits 0 1 (omega arith) (omega arith)

pub answered_fits : (s : Abstract) (k : Kind) → IsBounded k → IsState s → IsState (after_answer s k)
answered_fits s k h a =
    let s0 = with_value s 0 k in let a0 = with_value_fits s 0 k h a in
    let s1 = with_value s0 1 Unset in let a1 = with_value_fits s0 1 Unset tt a0 in
    let s2 = with_value s1 2 Unset in let a2 = with_value_fits s1 2 Unset tt a1 in
    let s3 = with_value s2 3 Unset in let a3 = with_value_fits s2 3 Unset tt a2 in
    let s4 = with_value s3 4 Unset in let a4 = with_value_fits s3 4 Unset tt a3 in
    with_value_fits s4 5 Unset tt a4

call_fits : (s : Abstract) (h : Helper) → IsState s → IsState (call_after s h)
unfolding call_with
call_fits s helper.Copy a =
    answered_fits (copied_state s) (answer_kind helper.Copy) (answer_fits helper.Copy)
    (written_fits s (place_of (value s 2) (pos 0) (length_of (value s 3))) (length_of (value s 3)) a)
call_fits s helper.Again a = answered_fits s (answer_kind helper.Again) (answer_fits helper.Again) a
call_fits s helper.Report a = answered_fits s (answer_kind helper.Report) (answer_fits helper.Report) a
call_fits s (helper.Query q) a = answered_fits s (answer_kind (helper.Query q)) (answer_fits (helper.Query q)) a

pub second_fits : (s : Abstract) (from : Source) → IsSourceInRange from → IsState s → IsBounded (second s from)
second_fits s (source.Immediate n) h a =
    any_fits (immediate_span n) (record { ordered = omega arith; most = sized_most width.W64 n (grind (arith, ints, nat_tests, h)) })
second_fits s (source.Register r) h a = value_fits s r a

-- a register with a result, if there is one
pub register_fits : (s : Abstract) (r : ℕ) (m : Option Kind) → Holds IsBounded m → IsState s → Holds IsState (option_map (with_value s r) m)
register_fits s r m h a = holds_map IsBounded IsState (with_value s r) (λ k e. with_value_fits s r k e a) m h

pub after_fits : (sectors : ℕ) (s : Abstract) (i : Instr) → sectors < 2 ^ 64 → IsInRange i → IsState s → Holds IsState (after_of sectors s i)
unfolding after_with IsInRange
after_fits sectors s (instr.Arithmetic w o dst from) h r a =
    register_fits s dst (result_kind (instr.Arithmetic w o dst from) (value s dst) (second s from)) (result_fits (instr.Arithmetic w o dst from) (value s dst) (second s from) (value_fits s dst a) (second_fits s from r.1 a)) a
after_fits sectors s (instr.Negate w dst) h r a =
    register_fits s dst (number_result (instr.Negate w dst) (value s dst) Unset) (computed_fits (instr.Negate w dst) (value s dst) Unset (value_fits s dst a) tt) a
after_fits sectors s (instr.SignExtend e dst src) h r a =
    register_fits s dst (number_result (instr.SignExtend e dst src) Unset (value s src)) (computed_fits (instr.SignExtend e dst src) Unset (value s src) tt (value_fits s src a)) a
after_fits sectors s (instr.ByteOrder o size dst) h r a =
    register_fits s dst (number_result (instr.ByteOrder o size dst) (value s dst) Unset) (computed_fits (instr.ByteOrder o size dst) (value s dst) Unset (value_fits s dst a) tt) a
after_fits sectors s (instr.Jump distance) h r a = a
after_fits sectors s (instr.LongJump distance) h r a = a
after_fits sectors s (instr.Branch w c dst from distance) h r a = a
after_fits sectors s (instr.CallHelper number) h r a = by_helper (asked_of (cast_unsigned w32 number))
  where
    by_helper : (m : Option Helper) → IsState (option_map_or (call_after s) m (after_answer s (Num any_word)))
    by_helper None = answered_fits s (Num any_word) any_word_fits a
    by_helper (Some x) = call_fits s x a
after_fits sectors s (instr.CallLocal distance) h r a = answered_fits s (Num any_word) any_word_fits a
after_fits sectors s instr.Exit h r a = a
after_fits sectors s (instr.Load size dst base distance) h r a =
    with_value_fits s dst (loaded_kind sectors s.groups (place_of (value s base) distance (byte_count size)) (byte_count size)) (loaded_fits sectors s.groups (place_of (value s base) distance (byte_count size)) size h a.groups) a
after_fits sectors s (instr.LoadSigned size dst base distance) h r a = with_value_fits s dst (Num any_word) any_word_fits a
after_fits sectors s (instr.StoreImmediate size base distance n) h r a =
    stored_fits s (second s (source.Immediate n)) (place_of (value s base) distance (byte_count size)) (byte_count size) (second_fits s (source.Immediate n) r.2 a) a
after_fits sectors s (instr.Store size base distance src) h r a =
    stored_fits s (value s src) (place_of (value s base) distance (byte_count size)) (byte_count size) (value_fits s src a) a
after_fits sectors s (instr.LoadImmediate dst x) h r a =
    let small : x < 2 ^ 64 = r.1 in
    with_value_fits s dst (Num (any_sign (only x))) (up_to_fits x x (omega arith) small) a

-- edges

abbrev AreBoth : Limits × Limits → Type 0
AreBoth p = IsLimits p.0 × IsLimits p.1

refined_state_fits : (s : Abstract) (dst : ℕ) (from : Source) (m : Option (Limits × Limits)) → Holds AreBoth m → IsState s
    → Holds IsState (option_map (with_both s dst from) m)
refined_state_fits s dst from None h a = tt
refined_state_fits s dst (source.Immediate n) (Some p) h a = with_value_fits s dst (Num p.0) h.0 a
refined_state_fits s dst (source.Register r) (Some p) h a =
    with_value_fits (with_value s dst (Num p.0)) r (Num p.1) h.1 (with_value_fits s dst (Num p.0) h.0 a)

edge_bounds : (i : Instr) (taken : Bool) (k l : Kind) → IsBounded k → IsBounded l → Holds AreBoth (limits_refined i taken (words k) (words l))
edge_bounds i taken k l h g =
    holds_of AreBoth (limits_refined i taken (words k) (words l))
    (λ p e. let fits = refined_fits i taken (words k) (words l) p (words_fit k h) (words_fit l g) e in (fits.0, fits.1))

pub tested_fits : (b : Bool) → IsBounded (tested_kind b)
tested_fits true = up_to_fits 0 0 (omega arith) (omega arith)
tested_fits false = record { ordered = omega arith; most = omega arith }

pub edge_fits : (s : Abstract) (i : Instr) (taken : Bool) → IsInRange i → IsState s → Holds IsState (edge_of s i taken)
unfolding edge_with IsInRange
edge_fits s (instr.Branch w c dst from distance) taken r a = by_test (is_null_test w c from (value s dst))
  where
    by_test : (b : Bool) → Holds IsState
        (if b then Some (with_value s dst (tested_kind (is_equal_edge c taken)))
        else option_map (with_both s dst from) (limits_refined (instr.Branch w c dst from distance) taken (words (value s dst)) (words (second s from))))
    by_test true = with_value_fits s dst (tested_kind (is_equal_edge c taken)) (tested_fits (is_equal_edge c taken)) a
    by_test false =
        refined_state_fits s dst from (limits_refined (instr.Branch w c dst from distance) taken (words (value s dst)) (words (second s from)))
        (edge_bounds (instr.Branch w c dst from distance) taken (value s dst) (second s from) (value_fits s dst a) (second_fits s from r.1 a)) a
edge_fits s _ taken r a = a

-- the entry of a local function

given_fits : (k : Kind) → IsBounded k → IsBounded (argument_kind k)
given_fits (Num x) h = h
given_fits _ h = tt

pub entry_fits : (s : Abstract) → IsState s → IsState (entry_state s)
unfolding entry_state start
entry_fits s a =
    let g = λ (r : ℕ). given_fits (value s r) (value_fits s r a) in
    record {
      values = (tt, (g 1, (g 2, (g 3, (g 4, (g 5, (tt, (tt, (tt, (tt, (omega arith, tt)))))))))));
      groups = start_fits.groups;
      registers = refl;
      stack = start_fits.stack;
    }
