-- The rules with guards are weaker than those without, and a smaller state breaks none that a larger one keeps.
use Rattle.std.proofs.Common.{◌≡◌, ℕ, not, ◌&&◌, ◌||◌, Bool, true, false, if◌then◌else◌, List, [], ◌∷◌, Option, None, Some, ℤ, pos, refl, ap, ◌∙◌, ◌⊎◌, inl, inr}
use Rattle.std.specs.Option.{option_map_or, option_or}
use Rattle.std.specs.Int.{cast_unsigned, w32}
use Rattle.base.specs.Check.{Check, check, first_failing}
use Rattle.base.specs.declared.causes.VerifierCause.{VerifierCause}
use Rattle.base.specs.declared.causes.VerifierCause.TheVariants as cause
use Rattle.bpf_isa.specs.declared.instr.Instr.{Instr}
use Rattle.bpf_isa.specs.declared.instr.Instr.TheVariants as instr
use Rattle.bpf_isa.specs.declared.instr.Source.TheVariants as source
use Rattle.helpers.specs.declared.helper.Helper.{Helper}
use Rattle.helpers.specs.declared.helper.Helper.TheVariants as helper
use Rattle.helpers.specs.Helper.{helper_of, asked_of, summing_of}
use Rattle.helpers.specs.Queries.{query_arguments}
use Rattle.helpers.specs.Sums.{checksum_of}
use Rattle.machine.specs.Memory.{byte_count, plain_size}
use Rattle.machine.specs.Step.{source_registers, operands}
use Rattle.ranges.specs.declared.place.ByteMark.TheVariants as mark
use Rattle.ranges.specs.Kinds.{Kind, Unset, Word, is_number, is_unknown, is_unset}
use Rattle.ranges.specs.States.{Abstract}
use Rattle.ranges.specs.Places.{place_of, is_inside, is_own_memory}
use Rattle.ranges.specs.Reading.{value, second, are_set, is_stack, is_base, has_length, are_words}
use Rattle.ranges.specs.Rules.{has_no, is_whole, load_rules, store_rules, call_rules, rules, length_of, guarded_rules, reads, rules_with}
use Rattle.ranges.specs.Order.{Under, StateUnder, IsState}
use Rattle.ranges.specs.Guards.{is_read_place, is_own_place, is_guarded_sum, is_guarded_call, is_guarded, GuardedRulesAreWeaker, GuardedRulesAreMonotone}
use Rattle.ranges.proofs.Keeping.{value_fits}
use Rattle.ranges.proofs.Smaller.{and_left, and_right, value_under}
use Rattle.ranges.proofs.SmallerRules.{and_mono, two_pass, stack_under, length_under, own_under, place_under}
use Rattle.ranges.proofs.SmallerStates.{first_check, two_tell, three_tell}

-- words

pub set_under : (k l : Kind) → Under k l → not (is_unset l) ≡ true → not (is_unset k) ≡ true
set_under k Unset u e = absurd (let bad : false ≡ true = e in cc)
set_under Unset l u e = absurd u
set_under k l u e = refl

known_word : (k : Kind) → not (is_unknown k) ≡ true → not (is_unset k) ≡ true
known_word Unset e = absurd (let bad : false ≡ true = e in cc)
known_word Word e = refl
known_word k e = refl

pub are_words_under : (s t : Abstract) (rs : List ℕ) → StateUnder s t → are_words t rs ≡ true → are_words s rs ≡ true
are_words_under s t [] u e = refl
are_words_under s t (r ∷ rs) u e =
    and_mono (not (is_unset (value s r))) (are_words s rs) (not (is_unset (value t r))) (are_words t rs)
    (set_under (value s r) (value t r) (value_under s t r u)) (are_words_under s t rs u) e

set_words : (s : Abstract) (rs : List ℕ) → are_set s rs ≡ true → are_words s rs ≡ true
set_words s [] e = refl
set_words s (r ∷ rs) e =
    and_mono (not (is_unset (value s r))) (are_words s rs) (not (is_unknown (value s r))) (are_set s rs)
    (known_word (value s r)) (set_words s rs) e

-- the weaker rules

one_pass : {C : Type 0} (c : C) (x a : Bool) → (a ≡ true → x ≡ true) → first_failing (check c a ∷ []) ≡ None → first_failing (check c x ∷ []) ≡ None
one_pass c x a f e = let h : x ≡ true = f (first_check c a [] e).0 in rw h refl

-- m is what the checks after the first come to
weaker_reads : (s : Abstract) (rs : List ℕ) (m : Option VerifierCause) → (if are_set s rs then m else Some cause.UnsetRegister) ≡ None → first_failing (reads true s rs ∷ []) ≡ None
weaker_reads s rs m e = by_test (are_set s rs) refl e
  where
    by_test : (b : Bool) → are_set s rs ≡ b → (if b then m else Some cause.UnsetRegister) ≡ None → first_failing (reads true s rs ∷ []) ≡ None
    by_test true t e = let h : are_words s rs ≡ true = set_words s rs t in rw h refl
    by_test false t e = absurd (let bad : Some cause.UnsetRegister ≡ None = e in cc)

copy_parts : (s : Abstract) → first_failing (call_rules false s helper.Copy) ≡ None
    → (are_set s (1 ∷ 2 ∷ 3 ∷ []) ≡ true) × (is_stack (value s 2) ≡ true) × (has_length (value s 3) ≡ true) × (is_inside (place_of (value s 2) (pos 0) (length_of (value s 3))) ≡ true)
unfolding call_rules
copy_parts s e =
    let told = three_tell cause.UnsetRegister cause.HelperArgument cause.OutsideRegion (are_set s (1 ∷ 2 ∷ 3 ∷ [])) (is_number (value s 1) && (is_stack (value s 2) && has_length (value s 3)))
    (is_inside (place_of (value s 2) (pos 0) (length_of (value s 3)))) e in
    let both : (is_stack (value s 2) && has_length (value s 3)) ≡ true = and_right (is_number (value s 1)) (is_stack (value s 2) && has_length (value s 3)) told.1 in
    (told.0, and_left (is_stack (value s 2)) (has_length (value s 3)) both, and_right (is_stack (value s 2)) (has_length (value s 3)) both, told.2)

weaker_call : (s : Abstract) (h : Helper) → first_failing (call_rules false s h) ≡ None → first_failing (call_rules true s h) ≡ None
unfolding call_rules
weaker_call s helper.Copy e =
    let parts = copy_parts s e in
    let words : are_words s (1 ∷ 2 ∷ 3 ∷ []) ≡ true = set_words s (1 ∷ 2 ∷ 3 ∷ []) parts.0 in
    rw (words, parts.2) refl
weaker_call s helper.Again e = weaker_reads s (1 ∷ []) _ e
weaker_call s helper.Report e = weaker_reads s (1 ∷ []) _ e
weaker_call s (helper.Query q) e = weaker_reads s (query_arguments q) _ e

pub guarded_weaker : GuardedRulesAreWeaker
unfolding rules_with load_rules store_rules
guarded_weaker s (instr.Arithmetic w o dst from) e = weaker_reads s (operands o dst from) _ e
guarded_weaker s (instr.Negate w dst) e = weaker_reads s (dst ∷ []) _ e
guarded_weaker s (instr.SignExtend x dst src) e = weaker_reads s (src ∷ []) _ e
guarded_weaker s (instr.ByteOrder o size dst) e = weaker_reads s (dst ∷ []) _ e
guarded_weaker s (instr.Jump distance) e = refl
guarded_weaker s (instr.LongJump distance) e = refl
guarded_weaker s (instr.Branch w c dst from distance) e = weaker_reads s (dst ∷ source_registers from) _ e
guarded_weaker s (instr.CallHelper number) e = by_helper (helper_of (cast_unsigned w32 number)) (summing_of (cast_unsigned w32 number)) e
  where
    by_helper : (m n : Option Helper) → first_failing (option_map_or (call_rules false s) m (check cause.UnknownHelper false ∷ [])) ≡ None
        → first_failing (option_map_or (call_rules true s) (option_or m n) (check cause.UnknownHelper false ∷ [])) ≡ None
    by_helper None n e = absurd (let bad : Some cause.UnknownHelper ≡ None = e in cc)
    by_helper (Some h) n e = weaker_call s h e
guarded_weaker s (instr.CallLocal distance) e = refl
guarded_weaker s instr.Exit e = weaker_reads s (0 ∷ []) _ e
guarded_weaker s (instr.Load size dst base distance) e = weaker_reads s (base ∷ []) _ e
guarded_weaker s (instr.LoadSigned size dst base distance) e = weaker_reads s (base ∷ []) _ e
guarded_weaker s (instr.StoreImmediate size base distance n) e = weaker_reads s (base ∷ []) _ e
guarded_weaker s (instr.Store size base distance src) e = weaker_reads s (base ∷ src ∷ []) _ e
guarded_weaker s (instr.LoadImmediate dst x) e = refl

-- at a smaller state

reads_under : (s t : Abstract) (rs : List ℕ) → StateUnder s t → first_failing (reads true t rs ∷ []) ≡ None → first_failing (reads true s rs ∷ []) ≡ None
reads_under s t rs u e = one_pass cause.UnsetRegister (are_words s rs) (are_words t rs) (are_words_under s t rs u) e

guarded_call_mono : (s t : Abstract) (h : Helper) → IsState s → StateUnder s t → first_failing (call_rules true t h) ≡ None → first_failing (call_rules true s h) ≡ None
unfolding call_rules
guarded_call_mono s t helper.Copy a u e =
    two_pass cause.UnsetRegister cause.HelperArgument (are_words s (1 ∷ 2 ∷ 3 ∷ [])) (has_length (value s 3)) (are_words t (1 ∷ 2 ∷ 3 ∷ [])) (has_length (value t 3))
    (are_words_under s t (1 ∷ 2 ∷ 3 ∷ []) u) (λ _ long. (length_under (value s 3) (value t 3) (value_fits s 3 a) (value_under s t 3 u) long).0) e
guarded_call_mono s t helper.Again a u e = reads_under s t (1 ∷ []) u e
guarded_call_mono s t helper.Report a u e = reads_under s t (1 ∷ []) u e
guarded_call_mono s t (helper.Query q) a u e = reads_under s t (query_arguments q) u e

pub guarded_mono : GuardedRulesAreMonotone
unfolding rules_with load_rules store_rules
guarded_mono s t (instr.Arithmetic w o dst from) r a b u e = reads_under s t (operands o dst from) u e
guarded_mono s t (instr.Negate w dst) r a b u e = reads_under s t (dst ∷ []) u e
guarded_mono s t (instr.SignExtend x dst src) r a b u e = reads_under s t (src ∷ []) u e
guarded_mono s t (instr.ByteOrder o size dst) r a b u e = reads_under s t (dst ∷ []) u e
guarded_mono s t (instr.Jump distance) r a b u e = refl
guarded_mono s t (instr.LongJump distance) r a b u e = refl
guarded_mono s t (instr.Branch w c dst from distance) r a b u e = reads_under s t (dst ∷ source_registers from) u e
guarded_mono s t (instr.CallHelper number) r a b u e = by_helper (asked_of (cast_unsigned w32 number)) e
  where
    by_helper : (m : Option Helper) → first_failing (option_map_or (call_rules true t) m (check cause.UnknownHelper false ∷ [])) ≡ None → first_failing (option_map_or (call_rules true s) m (check cause.UnknownHelper false ∷ [])) ≡ None
    by_helper None e = e
    by_helper (Some h) e = guarded_call_mono s t h a u e
guarded_mono s t (instr.CallLocal distance) r a b u e = refl
guarded_mono s t instr.Exit r a b u e = reads_under s t (0 ∷ []) u e
guarded_mono s t (instr.Load size dst base distance) r a b u e = reads_under s t (base ∷ []) u e
guarded_mono s t (instr.LoadSigned size dst base distance) r a b u e = reads_under s t (base ∷ []) u e
guarded_mono s t (instr.StoreImmediate size base distance n) r a b u e = reads_under s t (base ∷ []) u e
guarded_mono s t (instr.Store size base distance src) r a b u e = reads_under s t (base ∷ src ∷ []) u e
guarded_mono s t (instr.LoadImmediate dst x) r a b u e = refl

-- what isn't guarded

load_proved : (s : Abstract) (base : ℕ) (d : ℤ) (n : ℕ) → first_failing (load_rules false s base d n) ≡ None → not (is_read_place (value s base) d n) ≡ false
unfolding load_rules
load_proved s base d n e =
    let p = place_of (value s base) d n in
    let last : List (Check VerifierCause) = check cause.UnsetByte (has_no mark.Unset s.groups p n) ∷ check cause.PointerAsNumber (is_whole p n || has_no mark.Pointer s.groups p n) ∷ [] in
    let rest = first_check cause.UnsetRegister (are_set s (base ∷ [])) (check cause.OutsideRegion (is_inside p) ∷ last) e in
    let inside : is_inside p ≡ true = (first_check cause.OutsideRegion (is_inside p) last rest.1).0 in
    rw inside refl

store_proved : (s : Abstract) (set : Bool) (k : Kind) (base : ℕ) (d : ℤ) (n : ℕ) → first_failing (store_rules false s set k base d n) ≡ None → not (is_own_place (value s base) d n) ≡ false
unfolding store_rules
store_proved s set k base d n e =
    let p = place_of (value s base) d n in
    let l4 : List (Check VerifierCause) = check cause.PointerAsNumber (is_number k || is_whole p n) ∷ [] in
    let l3 : List (Check VerifierCause) = check cause.OutsideRegion (is_inside p) ∷ l4 in
    let l2 : List (Check VerifierCause) = check cause.ReadOnly (is_stack (value s base)) ∷ l3 in
    let c1 = first_check cause.UnsetRegister set (check cause.OutsideRegion (is_base (value s base)) ∷ l2) e in
    let c2 = first_check cause.OutsideRegion (is_base (value s base)) l2 c1.1 in
    let c3 = first_check cause.ReadOnly (is_stack (value s base)) l3 c2.1 in
    let c4 = first_check cause.OutsideRegion (is_inside p) l4 c3.1 in
    rw (c3.0, c4.0) refl

call_proved : (s : Abstract) (h : Helper) → first_failing (call_rules false s h) ≡ None → is_guarded_call s h ≡ false
call_proved s helper.Copy e = let parts = copy_parts s e in rw (parts.1, parts.3) refl
call_proved s helper.Again e = refl
call_proved s helper.Report e = refl
call_proved s (helper.Query q) e = refl

pub kept_proved : (s : Abstract) (i : Instr) → first_failing (rules s i) ≡ None → is_guarded s i ≡ false
unfolding rules_with is_guarded
kept_proved s (instr.Load size dst base distance) e = load_proved s base distance (byte_count size) e
kept_proved s (instr.LoadSigned size dst base distance) e = load_proved s base distance (byte_count (plain_size size)) e
kept_proved s (instr.StoreImmediate size base distance n) e = store_proved s (are_set s (base ∷ [])) (second s (source.Immediate n)) base distance (byte_count size) e
kept_proved s (instr.Store size base distance src) e = store_proved s (are_set s (base ∷ src ∷ [])) (value s src) base distance (byte_count size) e
kept_proved s (instr.CallHelper number) e = by_helper (helper_of (cast_unsigned w32 number)) (option_map_or is_guarded_sum (checksum_of (cast_unsigned w32 number)) false) e
  where
    by_helper : (m : Option Helper) (other : Bool) → first_failing (option_map_or (call_rules false s) m (check cause.UnknownHelper false ∷ [])) ≡ None → option_map_or (is_guarded_call s) m other ≡ false
    by_helper None other e = absurd (let bad : Some cause.UnknownHelper ≡ None = e in cc)
    by_helper (Some h) other e = call_proved s h e
kept_proved s (instr.Arithmetic w o dst from) e = refl
kept_proved s (instr.Negate w dst) e = refl
kept_proved s (instr.SignExtend x dst src) e = refl
kept_proved s (instr.ByteOrder o size dst) e = refl
kept_proved s (instr.Jump distance) e = refl
kept_proved s (instr.LongJump distance) e = refl
kept_proved s (instr.Branch w c dst from distance) e = refl
kept_proved s (instr.CallLocal distance) e = refl
kept_proved s instr.Exit e = refl
kept_proved s (instr.LoadImmediate dst x) e = refl

not_false : (b : Bool) → not b ≡ false → b ≡ true
not_false true e = refl
not_false false e = absurd (let bad : true ≡ false = e in cc)

or_left : (a b : Bool) → a ≡ true → (a || b) ≡ true
or_left a b e = rw e refl

either : (a b : Bool) → (a || b) ≡ true → (a ≡ true) ⊎ (b ≡ true)
either true b e = inl refl
either false b e = inr e

or_right : (a b : Bool) → b ≡ true → (a || b) ≡ true
or_right true b e = refl
or_right false b e = e

load_smaller : (s t : Abstract) (base : ℕ) (d : ℤ) (n : ℕ) → IsState s → StateUnder s t → not (is_read_place (value t base) d n) ≡ false
    → not (is_read_place (value s base) d n) ≡ false
load_smaller s t base d n a u e = by (either (is_inside (place_of (value t base) d n)) (is_own_memory (value t base) d n) (not_false (is_read_place (value t base) d n) e))
  where
    lifted : is_read_place (value s base) d n ≡ true → not (is_read_place (value s base) d n) ≡ false
    lifted h = rw h refl

    by : (is_inside (place_of (value t base) d n) ≡ true) ⊎ (is_own_memory (value t base) d n ≡ true) → not (is_read_place (value s base) d n) ≡ false
    by (inl inside) =
        let here : is_inside (place_of (value s base) d n) ≡ true = ap is_inside (place_under (value s base) (value t base) d n (value_fits s base a) (value_under s t base u) inside) ∙ inside in
        lifted (or_left (is_inside (place_of (value s base) d n)) (is_own_memory (value s base) d n) here)
    by (inr own) =
        lifted (or_right (is_inside (place_of (value s base) d n)) (is_own_memory (value s base) d n) (own_under (value s base) (value t base) d n (value_fits s base a) (value_under s t base u) own))

stack_smaller : (k l : Kind) (d : ℤ) (n : ℕ) (bounded : Under k l) → (is_stack l && is_inside (place_of l d n)) ≡ true → (is_inside (place_of l d n) ≡ true → place_of k d n ≡ place_of l d n)
    → (is_stack k && is_inside (place_of k d n)) ≡ true
stack_smaller k l d n u e same =
    let stack : is_stack k ≡ true = stack_under k l u (and_left (is_stack l) (is_inside (place_of l d n)) e) in
    let inside : is_inside (place_of l d n) ≡ true = and_right (is_stack l) (is_inside (place_of l d n)) e in
    rw (stack, same inside) inside

store_smaller : (s t : Abstract) (base : ℕ) (d : ℤ) (n : ℕ) → IsState s → StateUnder s t → not (is_own_place (value t base) d n) ≡ false → not (is_own_place (value s base) d n) ≡ false
store_smaller s t base d n a u e = by (either (is_stack (value t base) && is_inside (place_of (value t base) d n)) (is_own_memory (value t base) d n) (not_false (is_own_place (value t base) d n) e))
  where
    lifted : is_own_place (value s base) d n ≡ true → not (is_own_place (value s base) d n) ≡ false
    lifted h = rw h refl

    by : ((is_stack (value t base) && is_inside (place_of (value t base) d n)) ≡ true) ⊎ (is_own_memory (value t base) d n ≡ true) → not (is_own_place (value s base) d n) ≡ false
    by (inl stack) =
        let here : (is_stack (value s base) && is_inside (place_of (value s base) d n)) ≡ true =
        stack_smaller (value s base) (value t base) d n (value_under s t base u) stack (λ inside. place_under (value s base) (value t base) d n (value_fits s base a) (value_under s t base u) inside) in
        lifted (or_left (is_stack (value s base) && is_inside (place_of (value s base) d n)) (is_own_memory (value s base) d n) here)
    by (inr own) =
        lifted (or_right (is_stack (value s base) && is_inside (place_of (value s base) d n)) (is_own_memory (value s base) d n) (own_under (value s base) (value t base) d n (value_fits s base a) (value_under s t base u) own))

call_smaller : (s t : Abstract) (h : Helper) → IsState s → StateUnder s t → first_failing (call_rules true t h) ≡ None → is_guarded_call t h ≡ false → is_guarded_call s h ≡ false
unfolding call_rules
call_smaller s t helper.Copy a u g e =
    let long : has_length (value t 3) ≡ true = (two_tell cause.UnsetRegister cause.HelperArgument (are_words t (1 ∷ 2 ∷ 3 ∷ [])) (has_length (value t 3)) g).1 in
    let same : length_of (value s 3) ≡ length_of (value t 3) = (length_under (value s 3) (value t 3) (value_fits s 3 a) (value_under s t 3 u) long).1 in
    rw same (store_smaller s t 2 (pos 0) (length_of (value t 3)) a u e)
call_smaller s t helper.Again a u g e = refl
call_smaller s t helper.Report a u g e = refl
call_smaller s t (helper.Query q) a u g e = refl

pub smaller_proved : (s t : Abstract) (i : Instr) → IsState s → IsState t → StateUnder s t → first_failing (guarded_rules t i) ≡ None → is_guarded t i ≡ false → is_guarded s i ≡ false
unfolding rules_with is_guarded
smaller_proved s t (instr.Load size dst base distance) a b u g e = load_smaller s t base distance (byte_count size) a u e
smaller_proved s t (instr.LoadSigned size dst base distance) a b u g e = load_smaller s t base distance (byte_count (plain_size size)) a u e
smaller_proved s t (instr.StoreImmediate size base distance n) a b u g e = store_smaller s t base distance (byte_count size) a u e
smaller_proved s t (instr.Store size base distance src) a b u g e = store_smaller s t base distance (byte_count size) a u e
smaller_proved s t (instr.CallHelper number) a b u g e =
    by_helper (helper_of (cast_unsigned w32 number)) (summing_of (cast_unsigned w32 number)) (option_map_or is_guarded_sum (checksum_of (cast_unsigned w32 number)) false) g e
  where
    by_helper : (m n : Option Helper) (other : Bool) → first_failing (option_map_or (call_rules true t) (option_or m n) (check cause.UnknownHelper false ∷ [])) ≡ None → option_map_or (is_guarded_call t) m other ≡ false
        → option_map_or (is_guarded_call s) m other ≡ false
    by_helper None n other g e = e
    by_helper (Some h) n other g e = call_smaller s t h a u g e
smaller_proved s t (instr.Arithmetic w o dst from) a b u g e = refl
smaller_proved s t (instr.Negate w dst) a b u g e = refl
smaller_proved s t (instr.SignExtend x dst src) a b u g e = refl
smaller_proved s t (instr.ByteOrder o size dst) a b u g e = refl
smaller_proved s t (instr.Jump distance) a b u g e = refl
smaller_proved s t (instr.LongJump distance) a b u g e = refl
smaller_proved s t (instr.Branch w c dst from distance) a b u g e = refl
smaller_proved s t (instr.CallLocal distance) a b u g e = refl
smaller_proved s t instr.Exit a b u g e = refl
smaller_proved s t (instr.LoadImmediate dst x) a b u g e = refl
