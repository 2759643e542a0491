-- A step with guards over a table.
use Rattle.std.proofs.Common.{◌≡◌, ℕ, ◌+◌, not, ◌&&◌, ◌||◌, Bool, true, false, ℤ, pos, List, [], ◌∷◌, length, map, Option, None, Some, is_some, refl, sym, ap, ◌∙◌, inl, inr, subst, arith}
use Rattle.std.specs.Option.{option_map, option_map_or, option_or}
use Rattle.std.specs.Int.{cast_unsigned, w32}
use Rattle.base.specs.Check.{check, first_failing}
use Rattle.base.specs.declared.causes.MachineFault.TheVariants as fault
use Rattle.base.specs.declared.causes.VerifierCause.TheVariants as cause
use Rattle.bpf_isa.specs.declared.instr.Instr.{Instr}
use Rattle.bpf_isa.specs.declared.instr.Instr.TheVariants as instr
use Rattle.bpf_isa.specs.declared.instr.Source.TheVariants as source
use Rattle.bpf_isa.specs.Slots.{at, target_slot}
use Rattle.bpf_isa.specs.Spelling.{IsInRange}
use Rattle.helpers.specs.declared.device.Context.{Context}
use Rattle.helpers.specs.declared.helper.Helper.{Helper}
use Rattle.helpers.specs.declared.helper.Helper.TheVariants as helper
use Rattle.helpers.specs.Helper.{helper_of, summing_of}
use Rattle.helpers.specs.declared.sums.Checksum.{Checksum}
use Rattle.helpers.specs.Sums.{checksum_of, polynomial_of}
use Rattle.helpers.specs.Queries.{query_for}
use Rattle.machine.proofs.Sums.{no_helper}
use Rattle.machine.specs.State.{Frame, State}
use Rattle.machine.specs.Memory.{context_bytes, byte_count, plain_size, byte_at}
use Rattle.machine.specs.declared.ByteAt.{ByteAt}
use Rattle.machine.specs.Step.{Stepped, Next, Done, Fault, checks, effect, step_of, after_checks, call_checks, call_effect}
use Rattle.machine.specs.Guards.{filled_frame, filled, call_writes_own, writes_own, writes_own_here, guarded, stack_step, Made, memory_call, memory_step, sum_step, checksum_asked, with_memory, made_of, guarded_step}
use Rattle.bpf_shape.specs.Edges.{edges_of}
use Rattle.bpf_shape.specs.Again.{limit_of, heads}
use Rattle.ranges.specs.Kinds.{Num, is_number}
use Rattle.ranges.specs.After.{after_with, call_with, after_answer}
use Rattle.ranges.specs.States.{Abstract}
use Rattle.ranges.specs.Reading.{value, second, is_stack, is_base, has_length, are_words, any_word}
use Rattle.ranges.specs.Places.{place_of, is_inside, is_own_memory}
use Rattle.ranges.specs.Rules.{are_read, is_whole, rules, length_of, call_rules, store_rules, guarded_rules, rules_with}
use Rattle.ranges.specs.Passing.{passes, passed_with}
use Rattle.ranges.specs.Guards.{breaks_rule, passed_with_guards, is_guarded_call, is_guarded_sum, is_guarded}
use Rattle.verifier.specs.Tables.{state_at, arrival, broken_with, passed_on_with, rule_with, sent_with}
use Rattle.verifier.specs.Guards.{is_guarded_with, is_guarded_at}
use Rattle.soundness.specs.Meaning.{CoversFrame, Covers, frame_number, last_stack}
use Rattle.soundness.specs.Machines.{IsSetting, IsStack, IsMachine, HasLimit}
use Rattle.soundness.specs.Callers.{AreWaiting}
use Rattle.soundness.specs.Guards.{IsOwn}
use Rattle.soundness.specs.Laws.{IsCovered}
use Rattle.soundness.specs.GuardedTables.{IsCoveredStep, IsCoveredWithGuards, GuardedStepIsCovered}
use Rattle.soundness.proofs.Checks.{first_check, three_tell, five_tell, and_parts}
use Rattle.soundness.proofs.Standing.{Parts, machine, number, all_frames, number_is, last_is, Goes}
use Rattle.soundness.proofs.Computing.{Site}
use Rattle.soundness.proofs.Programs.{free_at, range_at, begins_at}
use Rattle.soundness.proofs.Frames.{split_last, length_of as frames_count, each_last}
use Rattle.soundness.proofs.Locals.{exit_set}
use Rattle.soundness.proofs.Steps.{stays, limit_here}
use Rattle.soundness.proofs.Tables.{at_instr, found_instr, listed_fits, made_covered, goes_covered}
use Rattle.soundness.proofs.Loose.{LooselyGoes, IsFull, words_set, arithmetic_loose, negate_loose, extend_loose, order_loose, branch_loose, load_loose, signed_load_loose}
use Rattle.soundness.proofs.LooseStores.{in_frame, outside_frame, store_immediate_loose, store_loose, helper_loose, own_store, own_copy}
use Rattle.soundness.proofs.MadeSteps.{IsFilledStep, MadeGoes, load_step, signed_load_step, store_immediate_step, store_step, copy_made, sum_made}

none_is : {C : Type 0} (m : Option C) → is_some m ≡ false → m ≡ None
none_is None e = refl
none_is (Some c) e = absurd (let bad : true ≡ false = e in cc)

-- a step of the stacks, and after it one of the memory
abbrev either_made : List ℕ → Bool → Stepped → Option Made → Option Made
either_made own here x y = option_or (with_memory own (guarded here x)) y

-- a covered step that writes nothing but the frame at hand
covered_comes : (program : List (Option Instr)) (sectors : ℕ) (table : List (Option Abstract)) (may_stray here : Bool) (arrivals : List (ℕ × Abstract)) (s : State) (own : List ℕ) (x : Stepped) (y : Option Made)
    → IsOwn own → here ≡ true → IsCovered program sectors table arrivals s x → IsCoveredWithGuards program sectors table may_stray arrivals s (either_made own here x y)
covered_comes program sectors table may_stray here arrivals s own x y bytes is c = subst (λ (b : Bool). IsCoveredWithGuards program sectors table may_stray arrivals s (either_made own b x y)) (sym is) (by x c)
  where
    by : (x : Stepped) → IsCovered program sectors table arrivals s x → IsCoveredWithGuards program sectors table may_stray arrivals s (either_made own true x y)
    by (Next t) c = (bytes, (t, refl, c))
    by (Done answer codes) c = (bytes, c)
    by (Fault cause slot) c = absurd c

-- a step in the memory, and a checksum
made_comes : (program : List (Option Instr)) (sectors : ℕ) (device : List (List ℕ)) (context : Context) (table : List (Option Abstract)) (known : Abstract) (m : Parts) (i : Instr) (may_stray : Bool) (y : Option Made)
    → IsSetting program sectors device context → Site sectors known m → IsMachine (machine m) → at program m.slot ≡ Some i → stays i ≡ true → limit_of i ≡ None
    → MadeGoes sectors m may_stray (passed_with true sectors known m.slot i) y
    → IsCoveredWithGuards program sectors table may_stray (map (arrival (heads program)) (passed_with true sectors known m.slot i)) (machine m) y
made_comes program sectors device context table known m i may_stray None set site whole e inside quiet goes = goes
made_comes program sectors device context table known m i may_stray (Some made) set site whole e inside quiet goes = (goes.0, by made.stepped goes.1.0 goes.1.1)
  where
    none : (k : ℕ) → limit_of i ≡ Some k → ⊥
    none k is = let bad : None ≡ Some k = sym quiet ∙ is in cc

    by : (x : Stepped) → IsFilledStep x → Goes sectors m (passed_with true sectors known m.slot i) x
        → IsCoveredStep program sectors table (map (arrival (heads program)) (passed_with true sectors known m.slot i)) (machine m) x
    by (Next t) full g = (t, sym full, made_covered true program sectors device context table known m i (Next t) set site whole e inside (λ u same k is. absurd (none k is)) g)
    by (Done answer codes) full g = absurd g
    by (Fault cause slot) full g = absurd g

-- one or the other
loosely_comes : (program : List (Option Instr)) (sectors : ℕ) (device : List (List ℕ)) (context : Context) (table : List (Option Abstract)) (known : Abstract) (m : Parts) (i : Instr)
    (may_stray outside beyond here : Bool) (own : List ℕ) (y : Option Made)
    → IsSetting program sectors device context → Site sectors known m → IsMachine (machine m) → IsOwn own → at program m.slot ≡ Some i → stays i ≡ true
    → (outside ≡ true → beyond ≡ true → may_stray ≡ true)
    → LooselyGoes sectors m outside (passed_with true sectors known m.slot i) here (step_of program (context_bytes context) device (machine m) i)
    → (outside ≡ true → (limit_of i ≡ None) × MadeGoes sectors m beyond (passed_with true sectors known m.slot i) y)
    → IsCoveredWithGuards program sectors table may_stray (map (arrival (heads program)) (passed_with true sectors known m.slot i)) (machine m)
    (either_made own here (step_of program (context_bytes context) device (machine m) i) y)
loosely_comes program sectors device context table known m i may_stray outside beyond here own y set site whole bytes e inside both (inl p) made =
    covered_comes program sectors table may_stray here (map (arrival (heads program)) (passed_with true sectors known m.slot i)) (machine m) own (step_of program (context_bytes context) device (machine m) i) y bytes p.0
    (goes_covered true program sectors device context table known m i set site whole e inside p.1)
loosely_comes program sectors device context table known m i may_stray outside beyond here own y set site whole bytes e inside both (inr q) made =
    let second = made q.1 in
    subst (λ (x : Option Stepped). IsCoveredWithGuards program sectors table may_stray arrivals (machine m) (option_or (with_memory own x) y)) (sym q.0)
    (made_comes program sectors device context table known m i may_stray y set site whole e inside second.0 (strays y second.1))
  where
    arrivals : List (ℕ × Abstract)
    arrivals = map (arrival (heads program)) (passed_with true sectors known m.slot i)

    strays : (z : Option Made) → MadeGoes sectors m beyond (passed_with true sectors known m.slot i) z → MadeGoes sectors m may_stray (passed_with true sectors known m.slot i) z
    strays None g = both q.1 g
    strays (Some made) g = g

-- the step with guards of an instruction
abbrev made_here : List (Option Instr) → List ℕ → List (List ℕ) → List ℕ → State → Instr → Option Made
made_here program context device own s i =
    option_map_or (λ c. with_memory own (sum_step program device own s c)) (checksum_asked i)
    (either_made own (writes_own s i) (step_of program context device s i) (memory_step program device own s i))

-- an instruction that writes nothing and asks for nothing
goes_here : (program : List (Option Instr)) (sectors : ℕ) (device : List (List ℕ)) (context : Context) (table : List (Option Abstract)) (known : Abstract) (m : Parts) (own : List ℕ) (i : Instr) (may_stray : Bool)
    → IsSetting program sectors device context → Site sectors known m → IsMachine (machine m) → IsOwn own → at program m.slot ≡ Some i → stays i ≡ true → writes_own (machine m) i ≡ true
    → Goes sectors m (passed_with true sectors known m.slot i) (step_of program (context_bytes context) device (machine m) i)
    → IsCoveredWithGuards program sectors table may_stray (map (arrival (heads program)) (passed_with true sectors known m.slot i)) (machine m)
    (either_made own (writes_own (machine m) i) (step_of program (context_bytes context) device (machine m) i) (memory_step program device own (machine m) i))
goes_here program sectors device context table known m own i may_stray set site whole bytes e inside writes goes =
    covered_comes program sectors table may_stray (writes_own (machine m) i) (map (arrival (heads program)) (passed_with true sectors known m.slot i)) (machine m) own
    (step_of program (context_bytes context) device (machine m) i) (memory_step program device own (machine m) i) bytes writes
    (goes_covered true program sectors device context table known m i set site whole e inside goes)

-- a copy that breaks no rule is to the frame at hand
copied_in_frame : (known : Abstract) → first_failing (call_rules false known helper.Copy) ≡ None → in_frame (value known 2) (pos 0) (length_of (value known 3)) ≡ true
unfolding call_rules
copied_in_frame known keeps =
    let tell = three_tell cause.UnsetRegister cause.HelperArgument cause.OutsideRegion (are_read false known (1 ∷ 2 ∷ 3 ∷ []))
    (is_number (value known 1) && (is_stack (value known 2) && has_length (value known 3))) (is_inside (place_of (value known 2) (pos 0) (length_of (value known 3)))) keeps in
    let one = and_parts (is_number (value known 1)) (is_stack (value known 2) && has_length (value known 3)) tell.1 in
    let two = and_parts (is_stack (value known 2)) (has_length (value known 3)) one.1 in
    rw (two.0, tell.2) refl

neither : (a b : Bool) → not a ≡ true → not b ≡ true → not (a || b) ≡ true
neither true b e f = absurd (let bad : false ≡ true = e in cc)
neither false b e f = f

-- a call of a helper

call_loose : (program : List (Option Instr)) (sectors : ℕ) (device : List (List ℕ)) (context : Context) (known : Abstract) (m : Parts) (number : ℤ) (h : Helper)
    → IsSetting program sectors device context → Site sectors known m → at program m.slot ≡ Some (instr.CallHelper number) → HasLimit program (machine m)
    → helper_of (cast_unsigned w32 number) ≡ Some h → first_failing (call_rules true known h) ≡ None
    → LooselyGoes sectors m (outside_frame known h) (passed_with true sectors known m.slot (instr.CallHelper number)) (writes_own (machine m) (instr.CallHelper number))
    (step_of program (context_bytes context) device (machine m) (instr.CallHelper number))
unfolding passed_with after_with step_of checks effect edges_of
call_loose program sectors device context known m number h set site e limit f keeps =
    subst (λ (o : Option Helper). LooselyGoes sectors m (outside_frame known h)
    ((m.slot + 1, option_map_or (call_with true known) (option_or o (summing_of (cast_unsigned w32 number))) (after_answer known (Num any_word))) ∷ [])
    (option_map_or (call_writes_own (machine m)) o true)
    (after_checks (machine m) (option_map_or (call_checks program bytes (machine m)) o (check fault.UnknownHelper false ∷ []))
    (option_map_or (call_effect device (machine m)) o (Next (machine m))))) (sym f)
    (helper_loose program sectors device context known m h set site (begins_at program m.slot (m.slot + 1) (instr.CallHelper number) set.shaped e (inl refl))
    (λ again. limit_here program m number set.shaped e limit (f ∙ ap (λ x. Some x) again)) keeps)
  where
    bytes : ℕ → ByteAt
    bytes = byte_at (context_bytes context) device (all_frames m)

copy_step : (program : List (Option Instr)) (sectors : ℕ) (device : List (List ℕ)) (context : Context) (known : Abstract) (m : Parts) (own : List ℕ) (number : ℤ)
    → IsSetting program sectors device context → Site sectors known m → IsFull m → IsOwn own → at program m.slot ≡ Some (instr.CallHelper number)
    → helper_of (cast_unsigned w32 number) ≡ Some helper.Copy → first_failing (call_rules true known helper.Copy) ≡ None
    → MadeGoes sectors m (not (is_own_memory (value known 2) (pos 0) (length_of (value known 3)))) (passed_with true sectors known m.slot (instr.CallHelper number))
    (memory_step program device own (machine m) (instr.CallHelper number))
unfolding passed_with after_with memory_step edges_of
copy_step program sectors device context known m own number set site full are e f keeps =
    subst (λ (o : Option Helper). MadeGoes sectors m (not (is_own_memory (value known 2) (pos 0) (length_of (value known 3))))
    ((m.slot + 1, option_map_or (call_with true known) (option_or o (summing_of (cast_unsigned w32 number))) (after_answer known (Num any_word))) ∷ [])
    (option_map_or (memory_call program device own (machine m)) o None)) (sym f)
    (copy_made program sectors device context known m own set site full are (begins_at program m.slot (m.slot + 1) (instr.CallHelper number) set.shaped e (inl refl)) keeps)

sum_goes : (program : List (Option Instr)) (sectors : ℕ) (device : List (List ℕ)) (context : Context) (known : Abstract) (m : Parts) (own : List ℕ) (number : ℤ) (c : Checksum)
    → IsSetting program sectors device context → Site sectors known m → IsFull m → IsOwn own → at program m.slot ≡ Some (instr.CallHelper number)
    → helper_of (cast_unsigned w32 number) ≡ None → checksum_of (cast_unsigned w32 number) ≡ Some c
    → first_failing (call_rules true known (helper.Query (query_for (polynomial_of c)))) ≡ None
    → MadeGoes sectors m (is_guarded known (instr.CallHelper number)) (passed_with true sectors known m.slot (instr.CallHelper number)) (with_memory own (sum_step program device own (machine m) c))
unfolding passed_with after_with call_with is_guarded edges_of
sum_goes program sectors device context known m own number c set site full are e f g keeps =
    subst (λ (o : Option Helper). MadeGoes sectors m (option_map_or (is_guarded_call known) o (option_map_or is_guarded_sum (checksum_of (cast_unsigned w32 number)) false))
    ((m.slot + 1, option_map_or (call_with true known) (option_or o (summing_of (cast_unsigned w32 number))) (after_answer known (Num any_word))) ∷ [])
    (with_memory own (sum_step program device own (machine m) c))) (sym f)
    (subst (λ (k : Option Checksum). MadeGoes sectors m (option_map_or is_guarded_sum k false)
    ((m.slot + 1, option_map_or (call_with true known) (option_map (λ (d : Checksum). helper.Query (query_for (polynomial_of d))) k) (after_answer known (Num any_word))) ∷ [])
    (with_memory own (sum_step program device own (machine m) c))) (sym g)
    (sum_made program sectors device context known m own c set site full are (begins_at program m.slot (m.slot + 1) (instr.CallHelper number) set.shaped e (inl refl)) keeps))

-- the rules of a call
call_keeps : (known : Abstract) (number : ℤ) → first_failing (guarded_rules known (instr.CallHelper number)) ≡ None
    → first_failing (option_map_or (call_rules true known) (option_or (helper_of (cast_unsigned w32 number)) (option_map (λ (d : Checksum). helper.Query (query_for (polynomial_of d))) (checksum_of (cast_unsigned w32 number)))) (check cause.UnknownHelper false ∷ [])) ≡ None
unfolding rules_with
call_keeps known number keeps = keeps

asked_guarded : (known : Abstract) (number : ℤ) (h : Helper) → helper_of (cast_unsigned w32 number) ≡ Some h → is_guarded_call known h ≡ true → is_guarded known (instr.CallHelper number) ≡ true
unfolding is_guarded
asked_guarded known number h f g =
    ap (λ (o : Option Helper). option_map_or (is_guarded_call known) o (option_map_or is_guarded_sum (checksum_of (cast_unsigned w32 number)) false)) f ∙ g

call_comes : (program : List (Option Instr)) (sectors : ℕ) (device : List (List ℕ)) (context : Context) (table : List (Option Abstract)) (known : Abstract) (m : Parts) (own : List ℕ) (number : ℤ)
    → IsSetting program sectors device context → Site sectors known m → IsMachine (machine m) → IsFull m → IsOwn own → at program m.slot ≡ Some (instr.CallHelper number) → HasLimit program (machine m)
    → first_failing (guarded_rules known (instr.CallHelper number)) ≡ None
    → IsCoveredWithGuards program sectors table (is_guarded known (instr.CallHelper number)) (map (arrival (heads program)) (passed_with true sectors known m.slot (instr.CallHelper number))) (machine m)
    (made_here program (context_bytes context) device own (machine m) (instr.CallHelper number))
unfolding limit_of
call_comes program sectors device context table known m own number set site whole full are e limit keeps = by (helper_of n) (checksum_of n) refl refl (call_keeps known number keeps)
  where
    n : ℕ
    n = cast_unsigned w32 number

    i : Instr
    i = instr.CallHelper number

    second : Option Made
    second = either_made own (writes_own (machine m) i) (step_of program (context_bytes context) device (machine m) i) (memory_step program device own (machine m) i)

    arrivals : List (ℕ × Abstract)
    arrivals = map (arrival (heads program)) (passed_with true sectors known m.slot i)

    by_helper : (h : Helper) → helper_of n ≡ Some h → first_failing (call_rules true known h) ≡ None → IsCoveredWithGuards program sectors table (is_guarded known i) arrivals (machine m) second
    by_helper helper.Copy f k =
        loosely_comes program sectors device context table known m i (is_guarded known i) (outside_frame known helper.Copy) (not (is_own_memory (value known 2) (pos 0) (length_of (value known 3)))) (writes_own (machine m) i)
        own (memory_step program device own (machine m) i) set site whole are e refl
        (λ a b. asked_guarded known number helper.Copy f (neither (in_frame (value known 2) (pos 0) (length_of (value known 3))) (is_own_memory (value known 2) (pos 0) (length_of (value known 3))) a b))
        (call_loose program sectors device context known m number helper.Copy set site e limit f k)
        (λ _. (refl, copy_step program sectors device context known m own number set site full are e f k))
    by_helper h f k =
        loosely_comes program sectors device context table known m i (is_guarded known i) false true (writes_own (machine m) i)
        own (memory_step program device own (machine m) i) set site whole are e refl
        (λ a b. absurd (let bad : false ≡ true = a in cc))
        (call_loose program sectors device context known m number h set site e limit f k)
        (λ a. absurd (let bad : false ≡ true = a in cc))

    by : (o : Option Helper) (k : Option Checksum) → helper_of n ≡ o → checksum_of n ≡ k
        → first_failing (option_map_or (call_rules true known) (option_or o (option_map (λ (d : Checksum). helper.Query (query_for (polynomial_of d))) k)) (check cause.UnknownHelper false ∷ [])) ≡ None
        → IsCoveredWithGuards program sectors table (is_guarded known i) arrivals (machine m) (option_map_or (λ (c : Checksum). with_memory own (sum_step program device own (machine m) c)) k second)
    by (Some h) None f g k = by_helper h f k
    by (Some h) (Some c) f g k = absurd (let bad : Some h ≡ None = sym f ∙ no_helper n c g in cc)
    by None (Some c) f g k =
        made_comes program sectors device context table known m i (is_guarded known i) (with_memory own (sum_step program device own (machine m) c)) set site whole e refl refl
        (sum_goes program sectors device context known m own number c set site full are e f g k)
    by None None f g k = absurd (let bad : Some cause.UnknownHelper ≡ None = k in cc)

-- each form of instruction of which a rule may be broken, the end of a function aside
form_comes : (program : List (Option Instr)) (sectors : ℕ) (device : List (List ℕ)) (context : Context) (table : List (Option Abstract)) (known : Abstract) (m : Parts) (own : List ℕ) (i : Instr)
    → IsSetting program sectors device context → Site sectors known m → IsMachine (machine m) → IsFull m → IsOwn own → at program m.slot ≡ Some i → IsInRange i → HasLimit program (machine m)
    → breaks_rule known i ≡ true → first_failing (guarded_rules known i) ≡ None → stays i ≡ true
    → IsCoveredWithGuards program sectors table (is_guarded known i) (map (arrival (heads program)) (passed_with true sectors known m.slot i)) (machine m)
    (made_here program (context_bytes context) device own (machine m) i)
unfolding rules_with IsInRange edges_of is_guarded limit_of
form_comes program sectors device context table known m own (instr.Arithmetic w o dst from) set site whole full are e range limit breaks keeps inside =
    goes_here program sectors device context table known m own (instr.Arithmetic w o dst from) false set site whole are e refl refl
    (arithmetic_loose program (context_bytes context) device sectors known m w o dst from site range.1 (free_at program m.slot (instr.Arithmetic w o dst from) set.shaped e)
    (begins_at program m.slot (m.slot + 1) (instr.Arithmetic w o dst from) set.shaped e (inl refl)) keeps)
form_comes program sectors device context table known m own (instr.Negate w dst) set site whole full are e range limit breaks keeps inside =
    goes_here program sectors device context table known m own (instr.Negate w dst) false set site whole are e refl refl
    (negate_loose program (context_bytes context) device sectors known m w dst site (free_at program m.slot (instr.Negate w dst) set.shaped e)
    (begins_at program m.slot (m.slot + 1) (instr.Negate w dst) set.shaped e (inl refl)) keeps)
form_comes program sectors device context table known m own (instr.SignExtend x dst src) set site whole full are e range limit breaks keeps inside =
    goes_here program sectors device context table known m own (instr.SignExtend x dst src) false set site whole are e refl refl
    (extend_loose program (context_bytes context) device sectors known m x dst src site (free_at program m.slot (instr.SignExtend x dst src) set.shaped e)
    (begins_at program m.slot (m.slot + 1) (instr.SignExtend x dst src) set.shaped e (inl refl)) keeps)
form_comes program sectors device context table known m own (instr.ByteOrder o size dst) set site whole full are e range limit breaks keeps inside =
    goes_here program sectors device context table known m own (instr.ByteOrder o size dst) false set site whole are e refl refl
    (order_loose program (context_bytes context) device sectors known m o size dst site (free_at program m.slot (instr.ByteOrder o size dst) set.shaped e)
    (begins_at program m.slot (m.slot + 1) (instr.ByteOrder o size dst) set.shaped e (inl refl)) keeps)
form_comes program sectors device context table known m own (instr.Jump distance) set site whole full are e range limit breaks keeps inside = absurd (let bad : false ≡ true = breaks in cc)
form_comes program sectors device context table known m own (instr.LongJump distance) set site whole full are e range limit breaks keeps inside = absurd (let bad : false ≡ true = breaks in cc)
form_comes program sectors device context table known m own (instr.LoadImmediate dst x) set site whole full are e range limit breaks keeps inside = absurd (let bad : false ≡ true = breaks in cc)
form_comes program sectors device context table known m own (instr.CallLocal distance) set site whole full are e range limit breaks keeps inside = absurd (let bad : false ≡ true = inside in cc)
form_comes program sectors device context table known m own instr.Exit set site whole full are e range limit breaks keeps inside = absurd (let bad : false ≡ true = inside in cc)
form_comes program sectors device context table known m own (instr.Branch w c dst from distance) set site whole full are e range limit breaks keeps inside =
    goes_here program sectors device context table known m own (instr.Branch w c dst from distance) false set site whole are e refl refl
    (branch_loose program (context_bytes context) device sectors known m w c dst from distance site
    (begins_at program m.slot (m.slot + 1) (instr.Branch w c dst from distance) set.shaped e (inl refl))
    (begins_at program m.slot (target_slot m.slot distance) (instr.Branch w c dst from distance) set.shaped e (inr refl)) keeps)
form_comes program sectors device context table known m own (instr.CallHelper number) set site whole full are e range limit breaks keeps inside =
    call_comes program sectors device context table known m own number set site whole full are e limit keeps
form_comes program sectors device context table known m own (instr.Load size dst base distance) set site whole full are e range limit breaks keeps inside =
    let i : Instr = instr.Load size dst base distance in
    let next = begins_at program m.slot (m.slot + 1) i set.shaped e (inl refl) in
    let a : Bool = is_inside (place_of (value known base) distance (byte_count size)) in
    let b : Bool = is_own_memory (value known base) distance (byte_count size) in
    loosely_comes program sectors device context table known m i (not (a || b)) (not a) (not b) true own (memory_step program device own (machine m) i) set site whole are e refl (neither a b)
    (load_loose program sectors device context known m size dst base distance set site full whole.stacks range.2 (free_at program m.slot i set.shaped e) next keeps)
    (λ _. (refl, load_step program sectors device context known m own size dst base distance set site full are range.2 next keeps))
form_comes program sectors device context table known m own (instr.LoadSigned size dst base distance) set site whole full are e range limit breaks keeps inside =
    let i : Instr = instr.LoadSigned size dst base distance in
    let next = begins_at program m.slot (m.slot + 1) i set.shaped e (inl refl) in
    let a : Bool = is_inside (place_of (value known base) distance (byte_count (plain_size size))) in
    let b : Bool = is_own_memory (value known base) distance (byte_count (plain_size size)) in
    loosely_comes program sectors device context table known m i (not (a || b)) (not a) (not b) true own (memory_step program device own (machine m) i) set site whole are e refl (neither a b)
    (signed_load_loose program sectors device context known m size dst base distance set site full whole.stacks range.2 (free_at program m.slot i set.shaped e) next keeps)
    (λ _. (refl, signed_load_step program sectors device context known m own size dst base distance set site full are range.2 next keeps))
form_comes program sectors device context table known m own (instr.StoreImmediate size base distance z) set site whole full are e range limit breaks keeps inside =
    let i : Instr = instr.StoreImmediate size base distance z in
    let next = begins_at program m.slot (m.slot + 1) i set.shaped e (inl refl) in
    let a : Bool = in_frame (value known base) distance (byte_count size) in
    let b : Bool = is_own_memory (value known base) distance (byte_count size) in
    loosely_comes program sectors device context table known m i (not (a || b)) (not a) (not b) (writes_own (machine m) i) own (memory_step program device own (machine m) i) set site whole are e refl (neither a b)
    (store_immediate_loose program (context_bytes context) device sectors known m size base distance z site range.1 next keeps)
    (λ _. (refl, store_immediate_step program sectors device context known m own size base distance z set site full are range.1 next keeps))
form_comes program sectors device context table known m own (instr.Store size base distance src) set site whole full are e range limit breaks keeps inside =
    let i : Instr = instr.Store size base distance src in
    let next = begins_at program m.slot (m.slot + 1) i set.shaped e (inl refl) in
    let a : Bool = in_frame (value known base) distance (byte_count size) in
    let b : Bool = is_own_memory (value known base) distance (byte_count size) in
    loosely_comes program sectors device context table known m i (not (a || b)) (not a) (not b) (writes_own (machine m) i) own (memory_step program device own (machine m) i) set site whole are e refl (neither a b)
    (store_loose program (context_bytes context) device sectors known m size base distance src site range.1 next keeps)
    (λ _. (refl, store_step program sectors device context known m own size base distance src set site full are range.1 next keeps))

-- where no rule is broken, nothing is written but the frame at hand, and no checksum is asked for

own_kept : (sectors : ℕ) (known : Abstract) (m : Parts) (i : Instr) → Site sectors known m → IsInRange i → first_failing (rules known i) ≡ None → first_failing (guarded_rules known i) ≡ None
    → writes_own (machine m) i ≡ true
unfolding IsInRange rules_with store_rules
own_kept sectors known m (instr.StoreImmediate size base distance z) site range holds keeps =
    let tell = five_tell cause.UnsetRegister cause.OutsideRegion cause.ReadOnly cause.OutsideRegion cause.PointerAsNumber (are_read false known (base ∷ [])) (is_base (value known base)) (is_stack (value known base))
    (is_inside (place_of (value known base) distance (byte_count size))) (is_number (second known (source.Immediate z)) || is_whole (place_of (value known base) distance (byte_count size)) (byte_count size)) holds in
    own_store sectors known m base (byte_count size) distance site range.1 (rw (tell.2, tell.3) refl)
own_kept sectors known m (instr.Store size base distance src) site range holds keeps =
    let tell = five_tell cause.UnsetRegister cause.OutsideRegion cause.ReadOnly cause.OutsideRegion cause.PointerAsNumber (are_read false known (base ∷ src ∷ [])) (is_base (value known base)) (is_stack (value known base))
    (is_inside (place_of (value known base) distance (byte_count size))) (is_number (value known src) || is_whole (place_of (value known base) distance (byte_count size)) (byte_count size)) holds in
    own_store sectors known m base (byte_count size) distance site range.1 (rw (tell.2, tell.3) refl)
own_kept sectors known m (instr.CallHelper number) site range holds keeps = by (helper_of (cast_unsigned w32 number)) (summing_of (cast_unsigned w32 number)) holds keeps
  where
    by : (h other : Option Helper) → first_failing (option_map_or (call_rules false known) h (check cause.UnknownHelper false ∷ [])) ≡ None
        → first_failing (option_map_or (call_rules true known) (option_or h other) (check cause.UnknownHelper false ∷ [])) ≡ None → option_map_or (call_writes_own (machine m)) h true ≡ true
    by None other k g = refl
    by (Some helper.Copy) other k g = own_copy sectors known m site g (copied_in_frame known k)
    by (Some _) other k g = refl
own_kept sectors known m _ site range holds keeps = refl

unasked : (known : Abstract) (i : Instr) → first_failing (rules known i) ≡ None → checksum_asked i ≡ None
unfolding rules_with
unasked known (instr.CallHelper number) holds = by (helper_of n) (checksum_of n) refl refl holds
  where
    n : ℕ
    n = cast_unsigned w32 number

    by : (h : Option Helper) (c : Option Checksum) → helper_of n ≡ h → checksum_of n ≡ c → first_failing (option_map_or (call_rules false known) h (check cause.UnknownHelper false ∷ [])) ≡ None → c ≡ None
    by h None f g k = refl
    by None (Some c) f g k = absurd (let bad : Some cause.UnknownHelper ≡ None = k in cc)
    by (Some h) (Some c) f g k = absurd (let bad : Some h ≡ None = sym f ∙ no_helper n c g in cc)
unasked known _ holds = refl

-- the end of a function
exit_comes : (program : List (Option Instr)) (sectors : ℕ) (device : List (List ℕ)) (context : Context) (table : List (Option Abstract)) (known : Abstract) (m : Parts) (own : List ℕ) (may_stray : Bool) (arrivals : List (ℕ × Abstract))
    → IsSetting program sectors device context → Site sectors known m → IsMachine (machine m) → IsOwn own → AreWaiting program sectors table 0 0 (all_frames m) m.slot
    → first_failing (guarded_rules known instr.Exit) ≡ None
    → IsCoveredWithGuards program sectors table may_stray arrivals (machine m) (made_here program (context_bytes context) device own (machine m) instr.Exit)
unfolding rules_with
exit_comes program sectors device context table known m own may_stray arrivals set site whole bytes waiting keeps =
    let are = (first_check cause.UnsetRegister (are_words known (0 ∷ [])) [] keeps).0 in
    covered_comes program sectors table may_stray true arrivals (machine m) own (step_of program (context_bytes context) device (machine m) instr.Exit) (memory_step program device own (machine m) instr.Exit) bytes refl
    (exit_set program (context_bytes context) device sectors table m arrivals set.shaped site.stands.words whole waiting
    (words_set sectors (number m) known m.registers (0 ∷ []) site.stands.values are))

local_keeps : (known : Abstract) (distance : ℤ) → breaks_rule known (instr.CallLocal distance) ≡ true → ⊥
unfolding rules_with
local_keeps known distance e = let bad : false ≡ true = e in cc

-- an instruction of which a rule without guards is broken
broken_comes : (program : List (Option Instr)) (sectors : ℕ) (device : List (List ℕ)) (context : Context) (table : List (Option Abstract)) (known : Abstract) (m : Parts) (own : List ℕ) (i : Instr)
    → IsSetting program sectors device context → Site sectors known m → IsMachine (machine m) → IsFull m → IsOwn own → AreWaiting program sectors table 0 0 (all_frames m) m.slot
    → at program m.slot ≡ Some i → HasLimit program (machine m) → breaks_rule known i ≡ true → first_failing (guarded_rules known i) ≡ None
    → IsCoveredWithGuards program sectors table (is_guarded known i) (map (arrival (heads program)) (passed_with true sectors known m.slot i)) (machine m)
    (made_here program (context_bytes context) device own (machine m) i)
broken_comes program sectors device context table known m own i set site whole full bytes waiting e limit breaks keeps = by i refl
  where
    inside : stays i ≡ true
        → IsCoveredWithGuards program sectors table (is_guarded known i) (map (arrival (heads program)) (passed_with true sectors known m.slot i)) (machine m)
        (made_here program (context_bytes context) device own (machine m) i)
    inside s = form_comes program sectors device context table known m own i set site whole full bytes e (range_at program m.slot i set.made e) limit breaks keeps s

    by : (j : Instr) → i ≡ j
        → IsCoveredWithGuards program sectors table (is_guarded known i) (map (arrival (heads program)) (passed_with true sectors known m.slot i)) (machine m)
        (made_here program (context_bytes context) device own (machine m) i)
    by instr.Exit f =
        subst (λ (q : Instr). IsCoveredWithGuards program sectors table (is_guarded known q) (map (arrival (heads program)) (passed_with true sectors known m.slot q)) (machine m)
        (made_here program (context_bytes context) device own (machine m) q)) (sym f)
        (exit_comes program sectors device context table known m own (is_guarded known instr.Exit) (map (arrival (heads program)) (passed_with true sectors known m.slot instr.Exit)) set site whole bytes waiting
        (subst (λ (q : Instr). first_failing (guarded_rules known q) ≡ None) f keeps))
    by (instr.CallLocal distance) f = absurd (local_keeps known distance (subst (λ (q : Instr). breaks_rule known q ≡ true) f breaks))
    by j f = inside (ap stays f ∙ refl)

guarded_at : (program : List (Option Instr)) (sectors : ℕ) (device : List (List ℕ)) (context : Context) (table : List (Option Abstract)) (known : Abstract) (m : Parts) (own : List ℕ) (i : Instr)
    → IsSetting program sectors device context → Site sectors known m → IsMachine (machine m) → IsFull m → IsOwn own → AreWaiting program sectors table 0 0 (all_frames m) m.slot
    → at program m.slot ≡ Some i → HasLimit program (machine m) → first_failing (guarded_rules known i) ≡ None
    → IsCoveredWithGuards program sectors table (is_guarded known i) (map (arrival (heads program)) (passed_with_guards sectors known m.slot i)) (machine m)
    (made_here program (context_bytes context) device own (machine m) i)
guarded_at program sectors device context table known m own i set site whole full bytes waiting e limit keeps = by (breaks_rule known i) refl
  where
    second : Option Made
    second = either_made own (writes_own (machine m) i) (step_of program (context_bytes context) device (machine m) i) (memory_step program device own (machine m) i)

    by : (b : Bool) → breaks_rule known i ≡ b
        → IsCoveredWithGuards program sectors table (is_guarded known i) (map (arrival (heads program)) (passed_with b sectors known m.slot i)) (machine m)
        (made_here program (context_bytes context) device own (machine m) i)
    by true f = broken_comes program sectors device context table known m own i set site whole full bytes waiting e limit f keeps
    by false f =
        let holds : first_failing (rules known i) ≡ None = none_is (first_failing (rules known i)) f in
        let there = covered_comes program sectors table (is_guarded known i) (writes_own (machine m) i) (map (arrival (heads program)) (passes sectors known m.slot i)) (machine m) own
        (step_of program (context_bytes context) device (machine m) i) (memory_step program device own (machine m) i) bytes
        (own_kept sectors known m i site (range_at program m.slot i set.made e) holds keeps)
        (at_instr program sectors device context table known m i set site whole waiting e limit holds) in
        subst (λ (o : Option Checksum). IsCoveredWithGuards program sectors table (is_guarded known i) (map (arrival (heads program)) (passes sectors known m.slot i)) (machine m)
        (option_map_or (λ (c : Checksum). with_memory own (sum_step program device own (machine m) c)) o second)) (sym (unasked known i holds)) there

-- over a table

guarded_rule_is : (program : List (Option Instr)) (table : List (Option Abstract)) (slot : ℕ) (i : Instr) (known : Abstract) → at program slot ≡ Some i → state_at table slot ≡ Some known
    → rule_with true program table slot ≡ None → first_failing (guarded_rules known i) ≡ None
unfolding rule_with
guarded_rule_is program table slot i known e f keeps =
    ap (λ o. broken_with true o (Some known)) (sym e) ∙ ap (λ o. broken_with true (at program slot) o) (sym f) ∙ keeps

guarded_sent_is : (program : List (Option Instr)) (sectors : ℕ) (table : List (Option Abstract)) (slot : ℕ) (i : Instr) (known : Abstract) → at program slot ≡ Some i → state_at table slot ≡ Some known
    → sent_with true program sectors table slot ≡ map (arrival (heads program)) (passed_with_guards sectors known slot i)
unfolding sent_with
guarded_sent_is program sectors table slot i known e f =
    ap (λ o. passed_on_with true (heads program) sectors slot o (state_at table slot)) e ∙ ap (λ o. passed_on_with true (heads program) sectors slot (Some i) o) f

guarded_is : (program : List (Option Instr)) (table : List (Option Abstract)) (slot : ℕ) (i : Instr) (known : Abstract) → at program slot ≡ Some i → state_at table slot ≡ Some known
    → is_guarded_at program table slot ≡ is_guarded known i
unfolding is_guarded_at
guarded_is program table slot i known e f =
    ap (λ o. is_guarded_with o (state_at table slot)) e ∙ ap (λ o. is_guarded_with (Some i) o) f

full_frames : (s : State) → filled s ≡ s → map filled_frame s.frames ≡ s.frames
unfolding filled
full_frames s e = ap (λ (u : State). u.frames) e

stacked_is : (program : List (Option Instr)) (context : List ℕ) (device : List (List ℕ)) (s : State) (i : Instr) → at program s.slot ≡ Some i
    → stack_step program context device s ≡ guarded (writes_own s i) (step_of program context device s i)
unfolding stack_step writes_own_here
stacked_is program context device s i e =
    ap (λ (o : Option Instr). guarded (option_map_or (writes_own s) o true) (option_map_or (step_of program context device s) o (Fault fault.NoInstruction s.slot))) e

step_is : (program : List (Option Instr)) (context : List ℕ) (device : List (List ℕ)) (own : List ℕ) (s : State) (i : Instr) → at program s.slot ≡ Some i
    → made_here program context device own s i ≡ guarded_step program context device own s
unfolding made_of
step_is program context device own s i e =
    ap (λ (x : Option Stepped). option_map_or (λ (c : Checksum). with_memory own (sum_step program device own s c)) (checksum_asked i) (option_or (with_memory own x) (memory_step program device own s i)))
    (sym (stacked_is program context device s i e))
    ∙ ap (λ (o : Option Instr). option_map_or (made_of program context device own s) o (with_memory own (Some (Fault fault.NoInstruction s.slot)))) (sym e)

pub guarded_step_covered : GuardedStepIsCovered
guarded_step_covered program sectors device context table own s set fit bytes known full keeps =
    let found = found_instr (at program s.slot) known.here in
    let i : Instr = found.0 in
    let split = split_last s.frames known.whole.some in
    let f : Frame = split.last in
    let m : Parts = record { slot = s.slot; registers = s.registers; below = split.below; caller = f.caller; stack = f.stack; turns = s.turns; codes = s.codes } in
    let same : s ≡ machine m = λ d. record { slot = s.slot; registers = s.registers; frames = split.is d; turns = s.turns; codes = s.codes } in
    let covers : CoversFrame sectors (frame_number (all_frames m)) known.known s.registers (last_stack (all_frames m)) = subst (λ (u : State). Covers sectors known.known u) same known.covers in
    let here : CoversFrame sectors (length split.below) known.known s.registers f.stack = rw (number_is split.below f, last_is split.below f) at covers in
    let whole : IsMachine (machine m) = subst IsMachine same known.whole in
    let waiting : AreWaiting program sectors table 0 0 (all_frames m) s.slot = subst (λ (fs : List Frame). AreWaiting program sectors table 0 0 fs s.slot) split.is known.waiting in
    let limit : HasLimit program (machine m) = known.limit in
    let long = frames_count split.below f in
    let most = whole.most in
    let site : Site sectors known.known m = record {
      few = record { device = set.few; frames = omega (arith, long, most) };
      fits = listed_fits (state_at table s.slot) known.known (fit s.slot) known.listed;
      stands = record { words = whole.registers; cells = each_last (λ x. IsStack x.stack) split.below f whole.stacks; values = here.registers; groups = here.groups };
      turns = whole.turns;
    } in
    let full_here : map filled_frame (all_frames m) ≡ all_frames m = subst (λ (fs : List Frame). map filled_frame fs ≡ fs) split.is (full_frames s full) in
    let there = guarded_at program sectors device context table known.known m own i set site whole full_here bytes waiting found.1 limit (guarded_rule_is program table s.slot i known.known found.1 known.listed keeps) in
    let listed : IsCoveredWithGuards program sectors table (is_guarded known.known i) (sent_with true program sectors table s.slot) (machine m)
    (made_here program (context_bytes context) device own (machine m) i) =
    subst (λ (xs : List (ℕ × Abstract)). IsCoveredWithGuards program sectors table (is_guarded known.known i) xs (machine m)
    (made_here program (context_bytes context) device own (machine m) i))
    (sym (guarded_sent_is program sectors table s.slot i known.known found.1 known.listed)) there in
    let told : IsCoveredWithGuards program sectors table (is_guarded_at program table s.slot) (sent_with true program sectors table s.slot) (machine m)
    (made_here program (context_bytes context) device own (machine m) i) =
    subst (λ (b : Bool). IsCoveredWithGuards program sectors table b (sent_with true program sectors table s.slot) (machine m)
    (made_here program (context_bytes context) device own (machine m) i))
    (sym (guarded_is program table s.slot i known.known found.1 known.listed)) listed in
    let stepped : IsCoveredWithGuards program sectors table (is_guarded_at program table s.slot) (sent_with true program sectors table s.slot) (machine m)
    (guarded_step program (context_bytes context) device own (machine m)) =
    subst (IsCoveredWithGuards program sectors table (is_guarded_at program table s.slot) (sent_with true program sectors table s.slot) (machine m))
    (step_is program (context_bytes context) device own (machine m) i found.1) told in
    subst (λ (u : State). IsCoveredWithGuards program sectors table (is_guarded_at program table s.slot) (sent_with true program sectors table s.slot) u
    (guarded_step program (context_bytes context) device own u)) (sym same) stepped
