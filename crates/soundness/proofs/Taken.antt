-- What a step that leads on has done: it went along a control edge, and only a call of `again` counts.
use Rattle.std.proofs.Common.{ℕ, zero, suc, ℤ, pos, ◌≡◌, ◌+◌, ◌-◌, ◌/◌, ◌%◌, ◌^◌, ◌<◌, nat_lt, ◌++◌, take, ◌&&◌, ◌==◌, Bool, true, false, if◌then◌else◌, List, [], ◌∷◌, length, slice_index_or, slice_set, Option, Some, None, refl, sym, ◌∙◌, ap, subst, inl, inr, arith}
use Rattle.std.specs.Option.{option_map_or}
use Rattle.std.specs.Int.{cast_unsigned, w32, w64}
use Rattle.std.specs.Ordering.{int_eq}
use Rattle.std.proofs.lemmas.Bool.{and_parts}
use Rattle.std.proofs.lemmas.Bool.Decides.{eqb_tells, Decides-int_eq}
use Rattle.std.proofs.lemmas.List.{length-set, get_or-set_same, map-append}
use Rattle.base.specs.Check.{check, first_failing}
use Rattle.base.specs.declared.causes.MachineFault.{MachineFault}
use Rattle.base.specs.declared.causes.MachineFault.TheVariants as fault
use Rattle.bpf_isa.specs.declared.instr.Instr.{Instr}
use Rattle.bpf_isa.specs.declared.instr.Instr.TheVariants as instr
use Rattle.bpf_isa.specs.declared.instr.Width.TheVariants as width
use Rattle.bpf_isa.specs.declared.instr.Operator.TheVariants as op
use Rattle.bpf_isa.specs.declared.instr.Source.TheVariants as source
use Rattle.bpf_isa.specs.declared.instr.Condition.{Condition}
use Rattle.bpf_isa.specs.declared.instr.Condition.TheVariants as cond
use Rattle.helpers.specs.declared.helper.Helper.{Helper}
use Rattle.helpers.specs.declared.helper.Helper.TheVariants as helper
use Rattle.helpers.specs.Helper.{helper_of}
use Rattle.helpers.specs.Answers.{device_bytes, copy_answer, again_answer, counts_after, report_answer}
use Rattle.helpers.specs.Queries.{query_answer}
use Rattle.bpf_shape.specs.Edges.{edges, edges_of}
use Rattle.bpf_shape.specs.Again.{helper_number, limit_of, zero_test, others_of}
use Rattle.bpf_shape.specs.Paths.{Leads}
use Rattle.machine.proofs.HelperNumbers.{again_number}
use Rattle.machine.specs.declared.ByteAt.{ByteAt}
use Rattle.machine.specs.Arithmetic.{arithmetic, operator_value, sign_extension, in_order, holds, condition_holds}
use Rattle.base.specs.Numbers.{number_bytes}
use Rattle.machine.specs.Memory.{byte_count, plain_size, extension_of, number_from, change_at, with_byte, frames_with}
use Rattle.machine.specs.State.{Caller, Frame, State, register, word, stack_start, stack_end, unset_stack}
use Rattle.bpf_isa.specs.Slots.{at, target_slot}
use Rattle.machine.specs.Step.{Stepped, Next, Done, Fault, second, address, memory, checks, call_checks, with_answer, set_and_go, turns_here, effect, call_effect, goes_on, reads, returns_to, caller_of, saved_caller, enter_function, exit_frame, after_checks, step_of, step}
use Rattle.soundness.proofs.Room.{callers}

-- an instruction that is no call and no EXIT
abbrev pub IsPlain : Instr → Type 0
IsPlain (instr.CallHelper number) = ⊥
IsPlain (instr.CallLocal distance) = ⊥
IsPlain instr.Exit = ⊥
IsPlain _ = Unit {0}

-- an instruction that goes along an edge of its slot, counts nothing and stays in its frame
pub record Moves (s : State) (i : Instr) (t : State) : Type 0 where
  pub leads : Leads (edges_of s.slot i) t.slot
  pub width : length t.registers ≡ length s.registers
  pub counts : t.turns ≡ s.turns
  pub frames : callers t.frames ≡ callers s.frames

-- a call of `again`
pub record Asks (s : State) (i : Instr) (t : State) : Type 0 where
  pub leads : Leads (edges_of s.slot i) t.slot
  pub width : length t.registers ≡ length s.registers
  pub counts : t.turns ≡ counts_after s.turns s.slot (word s 1)
  pub frames : callers t.frames ≡ callers s.frames
  pub answer : t.registers ≡ with_answer s.registers (again_answer (turns_here s) (word s 1))

-- what a predicate of next states says of a step
abbrev pub OnNext : (State → Type 0) → Stepped → Type 0
OnNext P (Next t) = P t
OnNext P (Done a codes) = Unit {0}
OnNext P (Fault c slot) = Unit {0}

-- where the checks pass, the effect comes
passed : (s : State) (o : Option MachineFault) (done : Stepped) (t : State) → option_map_or (λ cause. Fault cause s.slot) o done ≡ Next t → done ≡ Next t
passed s None done t e = e
passed s (Some c) done t e = absurd (let bad : Fault c s.slot ≡ Next t = e in cc)

pub in_next : (P : State → Type 0) (program : List (Option Instr)) (context : List ℕ) (device : List (List ℕ)) (s t : State) (i : Instr)
    → OnNext P (effect (memory context device s) device s i) → step_of program context device s i ≡ Next t → P t
unfolding step_of
in_next P program context device s t i here e =
    let done = effect (memory context device s) device s i in
    let came : done ≡ Next t = passed s (first_failing (checks program (memory context device s) s i)) done t e in
    subst (OnNext P) came here

-- the instruction that was at hand
pub record Taken (program : List (Option Instr)) (context : List ℕ) (device : List (List ℕ)) (s t : State) : Type 0 where
  pub instr : Instr
  pub there : at program s.slot ≡ Some instr
  pub came : step_of program context device s instr ≡ Next t

pub taken : (program : List (Option Instr)) (context : List ℕ) (device : List (List ℕ)) (s t : State) → step program context device s ≡ Next t
    → Taken program context device s t
taken program context device s t e = by_slot (at program s.slot) refl e
  where
    by_slot : (o : Option Instr) → at program s.slot ≡ o → option_map_or (step_of program context device s) o (Fault fault.NoInstruction s.slot) ≡ Next t
        → Taken program context device s t
    by_slot None is e = absurd (let bad : Fault fault.NoInstruction s.slot ≡ Next t = e in cc)
    by_slot (Some i) is e = record { instr = i; there = is; came = e }

-- one of two slots comes
either : (b : Bool) (slot to : ℕ) → Leads (edges (Some (slot + 1)) (Some to)) (if b then to else slot + 1)
either true slot to = inr refl
either false slot to = inl refl

pub set_moves : (s : State) (i : Instr) (n r x : ℕ) → (edges_of s.slot i).next ≡ Some (s.slot + n) → OnNext (Moves s i) (set_and_go n s r x)
set_moves s i n r x e = record { leads = inl e; width = length-set s.registers r (Some x); counts = refl; frames = refl }

-- a store changes no caller
changed_callers : (n : ℕ) (g : Frame → Frame) (fs : List Frame) → ((f : Frame) → (g f).caller ≡ f.caller) → callers (change_at n g fs) ≡ callers fs
changed_callers n g [] same = refl
changed_callers zero g (f ∷ fs) same = rw (same f) refl
changed_callers (suc n) g (f ∷ fs) same = rw (changed_callers n g fs same) refl

byte_callers : (fs : List Frame) (a b : ℕ) → callers (with_byte fs a b) ≡ callers fs
unfolding with_byte
byte_callers fs a b = by_test (nat_lt a stack_start)
  where
    by_test : (c : Bool)
        → callers (if c then fs else change_at ((a - stack_start) / 1024) (λ f. record f { stack = slice_set f.stack ((a - stack_start) % 1024) (Some b) }) fs) ≡ callers fs
    by_test true = refl
    by_test false =
        changed_callers ((a - stack_start) / 1024) (λ f. record f { stack = slice_set f.stack ((a - stack_start) % 1024) (Some b) }) fs (λ f. refl)

pub stored_callers : (fs : List Frame) (a : ℕ) (bytes : List ℕ) → callers (frames_with fs a bytes) ≡ callers fs
unfolding frames_with
stored_callers fs a [] = refl
stored_callers fs a (b ∷ bytes) = stored_callers (with_byte fs a b) ((a + 1) % 2 ^ 64) bytes ∙ byte_callers fs a b

-- each instruction but a call and EXIT
pub effect_moves : (bytes : ℕ → ByteAt) (device : List (List ℕ)) (s : State) (i : Instr) → IsPlain i → OnNext (Moves s i) (effect bytes device s i)
unfolding effect edges_of
effect_moves bytes device s (instr.Arithmetic w o dst from) h = set_moves s (instr.Arithmetic w o dst from) 1 dst (arithmetic w o (word s dst) (second s from)) refl
effect_moves bytes device s (instr.Negate w dst) h = set_moves s (instr.Negate w dst) 1 dst (arithmetic w op.Sub 0 (word s dst)) refl
effect_moves bytes device s (instr.SignExtend e dst src) h = set_moves s (instr.SignExtend e dst src) 1 dst (sign_extension e (word s src)) refl
effect_moves bytes device s (instr.ByteOrder o size dst) h = set_moves s (instr.ByteOrder o size dst) 1 dst (in_order o size (word s dst)) refl
effect_moves bytes device s (instr.Jump distance) h = record { leads = inr refl; width = refl; counts = refl; frames = refl }
effect_moves bytes device s (instr.LongJump distance) h = record { leads = inr refl; width = refl; counts = refl; frames = refl }
effect_moves bytes device s (instr.Branch w c dst from distance) h =
    record { leads = either (holds w c (word s dst) (second s from)) s.slot (target_slot s.slot distance); width = refl; counts = refl; frames = refl }
effect_moves bytes device s (instr.CallHelper number) h = absurd h
effect_moves bytes device s (instr.CallLocal distance) h = absurd h
effect_moves bytes device s instr.Exit h = absurd h
effect_moves bytes device s (instr.Load size dst base distance) h =
    set_moves s (instr.Load size dst base distance) 1 dst (number_from bytes (address s base distance) (byte_count size)) refl
effect_moves bytes device s (instr.LoadSigned size dst base distance) h =
    set_moves s (instr.LoadSigned size dst base distance) 1 dst (sign_extension (extension_of size) (number_from bytes (address s base distance) (byte_count (plain_size size)))) refl
effect_moves bytes device s (instr.StoreImmediate size base distance n) h =
    record { leads = inl refl; width = refl; counts = refl; frames = stored_callers s.frames (address s base distance) (number_bytes (byte_count size) (cast_unsigned w64 n)) }
effect_moves bytes device s (instr.Store size base distance src) h =
    record { leads = inl refl; width = refl; counts = refl; frames = stored_callers s.frames (address s base distance) (number_bytes (byte_count size) (word s src)) }
effect_moves bytes device s (instr.LoadImmediate dst x) h = set_moves s (instr.LoadImmediate dst x) 2 dst x refl

-- a call of a helper, a local call, EXIT, or none of these
pub data Kind (i : Instr) : Type 0 where
  Plain : IsPlain i → Kind i
  Helps : (number : ℤ) → i ≡ instr.CallHelper number → Kind i
  Enters : (distance : ℤ) → i ≡ instr.CallLocal distance → Kind i
  Exits : i ≡ instr.Exit → Kind i

pub kind_of : (i : Instr) → Kind i
kind_of (instr.CallHelper number) = Helps number refl
kind_of (instr.CallLocal distance) = Enters distance refl
kind_of instr.Exit = Exits refl
kind_of _ = Plain tt

pub no_helper : (i : Instr) → IsPlain i → helper_number i ≡ None
no_helper (instr.CallHelper number) h = absurd h
no_helper _ h = refl

-- a local call
pub record Entered (s : State) (distance : ℤ) (t : State) : Type 0 where
  pub slot : t.slot ≡ target_slot s.slot distance
  pub width : length t.registers ≡ 11
  pub counts : t.turns ≡ s.turns
  pub frames : callers t.frames ≡ callers s.frames ++ Some (saved_caller s) ∷ []
  pub few : nat_lt (length s.frames) 4 ≡ true

pub local_entered : (program : List (Option Instr)) (context : List ℕ) (device : List (List ℕ)) (s t : State) (distance : ℤ)
    → step_of program context device s (instr.CallLocal distance) ≡ Next t → Entered s distance t
unfolding step_of checks effect
local_entered program context device s t distance e = by_test (nat_lt (length s.frames) 4) refl e
  where
    here : State
    here = record s {
      slot = target_slot s.slot distance;
      registers = None ∷ register s 1 ∷ register s 2 ∷ register s 3 ∷ register s 4 ∷ register s 5 ∷ None ∷ None ∷ None ∷ None ∷ Some (stack_end (length s.frames)) ∷ [];
      frames = s.frames ++ record { stack = unset_stack; caller = Some (saved_caller s) } ∷ [];
    }

    came_to : nat_lt (length s.frames) 4 ≡ true → Entered s distance here
    came_to few = record { slot = refl; width = refl; counts = refl; frames = map-append (λ (f : Frame). f.caller) s.frames (record { stack = unset_stack; caller = Some (saved_caller s) } ∷ []); few = few }

    by_test : (b : Bool) → nat_lt (length s.frames) 4 ≡ b
        → after_checks s (check fault.FrameLimit b ∷ goes_on program (target_slot s.slot distance) ∷ []) (enter_function s (target_slot s.slot distance)) ≡ Next t → Entered s distance t
    by_test false is e = absurd (let bad : Fault fault.FrameLimit s.slot ≡ Next t = e in cc)
    by_test true is e =
        let came : enter_function s (target_slot s.slot distance) ≡ Next t = passed s (first_failing (goes_on program (target_slot s.slot distance) ∷ [])) _ t e in
        subst (OnNext (Entered s distance)) came (came_to is)

-- a return
pub record Exited (s : State) (c : Caller) (t : State) : Type 0 where
  pub caller : caller_of s.frames ≡ Some c
  pub slot : t.slot ≡ c.slot
  pub width : length t.registers ≡ 6 + length c.registers
  pub counts : t.turns ≡ s.turns
  pub frames : t.frames ≡ take (length s.frames - 1) s.frames

pub has_exited : (program : List (Option Instr)) (context : List ℕ) (device : List (List ℕ)) (s t : State) → step_of program context device s instr.Exit ≡ Next t
    → (c : Caller) × Exited s c t
unfolding step_of checks effect
has_exited program context device s t e = by_caller (caller_of s.frames) refl e
  where
    back : Caller → State
    back c = record s {
      slot = c.slot;
      registers = register s 0 ∷ None ∷ None ∷ None ∷ None ∷ None ∷ c.registers;
      frames = take (length s.frames - 1) s.frames;
    }

    by_caller : (o : Option Caller) → caller_of s.frames ≡ o → after_checks s (reads s (0 ∷ []) ∷ returns_to program o) (exit_frame s o) ≡ Next t → (c : Caller) × Exited s c t
    by_caller None is e =
        let came : exit_frame s None ≡ Next t = passed s (first_failing (reads s (0 ∷ []) ∷ [])) _ t e in
        absurd (let bad : Done (word s 0) s.codes ≡ Next t = came in cc)
    by_caller (Some c) is e =
        let came : exit_frame s (Some c) ≡ Next t = passed s (first_failing (reads s (0 ∷ []) ∷ returns_to program (Some c))) _ t e in
        let there : Exited s c (back c) = record { caller = is; slot = refl; width = omega arith; counts = refl; frames = refl } in
        (c, subst (OnNext (Exited s c)) came there)

length_answered : (rs : List (Option ℕ)) (a : ℕ) → length (with_answer rs a) ≡ length rs
length_answered rs a =
    let first = slice_set rs 0 (Some a) in
    let second = slice_set first 1 None in
    let third = slice_set second 2 None in
    let fourth = slice_set third 3 None in
    let fifth = slice_set fourth 4 None in
    length-set fifth 5 None ∙ length-set fourth 4 None ∙ length-set third 3 None ∙ length-set second 2 None ∙ length-set first 1 None ∙ length-set rs 0 (Some a)

-- register 0 has the answer
pub answer_there : (rs : List (Option ℕ)) (a : ℕ) → 0 < length rs → slice_index_or (with_answer rs a) 0 None ≡ Some a
answer_there [] a h = absurd (omega (arith, h))
answer_there (x ∷ xs) a h = refl

-- a state after a helper's answer that counts nothing
pub answer_moves : (s : State) (number : ℤ) (t : State) (a : ℕ) → t.slot ≡ s.slot + 1 → t.registers ≡ with_answer s.registers a → t.turns ≡ s.turns
    → callers t.frames ≡ callers s.frames → Moves s (instr.CallHelper number) t
unfolding edges_of
answer_moves s number t a slot registers counts frames =
    record { leads = inl (ap Some (sym slot)); width = ap length registers ∙ length_answered s.registers a; counts = counts; frames = frames }

-- what the call of a helper has done
abbrev pub Called : State → ℤ → Helper → State → Type 0
Called s number helper.Again t = Asks s (instr.CallHelper number) t
Called s number _ t = Moves s (instr.CallHelper number) t

call_moves : (device : List (List ℕ)) (s : State) (number : ℤ) (h : Helper) → OnNext (Called s number h) (call_effect device s h)
unfolding call_effect edges_of
call_moves device s number helper.Copy = answer_moves s number _ (copy_answer device (word s 1) (word s 3)) refl refl refl (stored_callers s.frames (word s 2) (device_bytes device (word s 1) (word s 3)))
call_moves device s number helper.Again =
    record { leads = inl refl; width = length_answered s.registers (again_answer (turns_here s) (word s 1)); counts = refl; frames = refl; answer = refl }
call_moves device s number helper.Report = answer_moves s number _ (report_answer s.codes) refl refl refl refl
call_moves device s number (helper.Query q) = answer_moves s number _ (query_answer device q (word s 1) (word s 2) (word s 3)) refl refl refl refl

-- the helper that was called
pub record CallsHelper (s : State) (number : ℤ) (t : State) : Type 0 where
  pub helper : Helper
  pub named : helper_of (cast_unsigned w32 number) ≡ Some helper
  pub called : Called s number helper t

pub helper_called : (program : List (Option Instr)) (context : List ℕ) (device : List (List ℕ)) (s t : State) (number : ℤ)
    → step_of program context device s (instr.CallHelper number) ≡ Next t → CallsHelper s number t
unfolding step_of checks effect
helper_called program context device s t number e = by_name (helper_of (cast_unsigned w32 number)) refl e
  where
    by_name : (o : Option Helper) → helper_of (cast_unsigned w32 number) ≡ o
        → after_checks s (option_map_or (call_checks program (memory context device s) s) o (check fault.UnknownHelper false ∷ [])) (option_map_or (call_effect device s) o (Next s)) ≡ Next t
        → CallsHelper s number t
    by_name None is e = absurd (let bad : Fault fault.UnknownHelper s.slot ≡ Next t = e in cc)
    by_name (Some h) is e =
        let came = passed s (first_failing (call_checks program (memory context device s) s h)) (call_effect device s h) t e in
        record { helper = h; named = is; called = subst (OnNext (Called s number h)) came (call_moves device s number h) }

-- the number of `again`
number_again : (n : ℕ) → (n == 3) ≡ true → helper_of n ≡ Some helper.Again
number_again n is =
    elim (eqb_tells n 3) [
      | inl same ↦ rw same.1 refl
      | inr other ↦ absurd (let bad : false ≡ true = sym other.0 ∙ is in cc)
    ]

pub again_asks : (s : State) (number : ℤ) (t : State) → CallsHelper s number t → (cast_unsigned w32 number == 3) ≡ true → Asks s (instr.CallHelper number) t
again_asks s number t c is =
    let named : Some c.helper ≡ Some helper.Again = sym c.named ∙ number_again (cast_unsigned w32 number) is in
    let same : c.helper ≡ helper.Again = cc in
    subst (λ (h : Helper). Called s number h t) same c.called

pub other_moves : (s : State) (number : ℤ) (t : State) → CallsHelper s number t → (cast_unsigned w32 number == 3) ≡ false → Moves s (instr.CallHelper number) t
other_moves s number t c is = by_helper c.helper c.named c.called
  where
    by_helper : (h : Helper) → helper_of (cast_unsigned w32 number) ≡ Some h → Called s number h t → Moves s (instr.CallHelper number) t
    by_helper helper.Again named done =
        absurd (let bad : false ≡ true = sym is ∙ again_number (cast_unsigned w32 number) named in cc)
    by_helper _ named done = done

-- `mov64 r1, K` sets register 1 to K

if_some : {X : Type 0} (b : Bool) (x y : X) → (if b then Some x else None) ≡ Some y → (b ≡ true) × (x ≡ y)
if_some true x y h = let same : Some x ≡ Some y = h in (refl, cc)
if_some false x y h = absurd (let bad : None ≡ Some y = h in cc)

set_there : (rs : List (Option ℕ)) (dst x k : ℕ) → (dst == 1) ≡ true → x ≡ k → 1 < length rs → slice_index_or (slice_set rs dst (Some x)) 1 None ≡ Some k
set_there rs dst x k is same inside =
    elim (eqb_tells dst 1) [
      | inl one ↦ rw (one.1, same) (get_or-set_same rs 1 (Some k) None inside)
      | inr other ↦ absurd (let bad : false ≡ true = sym other.0 ∙ is in cc)
    ]

-- register 1 has that word
abbrev pub HasLimit : ℕ → State → Type 0
HasLimit k t = register t 1 ≡ Some k

pub sets_limit : (bytes : ℕ → ByteAt) (device : List (List ℕ)) (s : State) (i : Instr) (k : ℕ) → limit_of i ≡ Some k → 1 < length s.registers
    → OnNext (HasLimit k) (effect bytes device s i)
unfolding effect limit_of arithmetic operator_value
sets_limit bytes device s (instr.Arithmetic width.W64 op.Mov dst (source.Immediate n)) k is inside =
    let a = if_some _ (cast_unsigned w64 n) k is in
    let b = and_parts (dst == 1) _ a.0 in
    set_there s.registers dst (cast_unsigned w64 n) k b.0 a.1 inside
sets_limit bytes device s i k is inside = absurd (let bad : None ≡ Some k = is in cc)

-- a test of r0 that finds 0 takes no again edge

goes_by : (c : Condition) (slot to : ℕ) → Leads (others_of (Some c) (edges (Some (slot + 1)) (Some to))) (if holds width.W64 c 0 0 then to else slot + 1)
unfolding holds condition_holds
goes_by cond.Eq slot to = inr refl
goes_by cond.Ne slot to = inl refl
goes_by c slot to = either (holds width.W64 c 0 0) slot to

goes : (b c : Condition) (x y slot to : ℕ) → b ≡ c → x ≡ 0 → y ≡ 0
    → Leads (others_of (Some c) (edges (Some (slot + 1)) (Some to))) (if holds width.W64 b x y then to else slot + 1)
goes b c x y slot to e f g = rw (e, f, g) (goes_by c slot to)

-- the next slot is reached along one of the other edges
abbrev pub Passes : State → Instr → Condition → State → Type 0
Passes s i c t = Leads (others_of (Some c) (edges_of s.slot i)) t.slot

pub passes_test : (bytes : ℕ → ByteAt) (device : List (List ℕ)) (s : State) (i : Instr) (c : Condition) → zero_test i ≡ Some c → word s 0 ≡ 0
    → OnNext (Passes s i c) (effect bytes device s i)
unfolding effect edges_of zero_test
passes_test bytes device s (instr.Branch width.W64 b dst (source.Immediate n) distance) c is zero_there =
    let a = if_some ((dst == 0) && int_eq n (pos 0)) b c is in
    let d = and_parts (dst == 0) (int_eq n (pos 0)) a.0 in
    let number : n ≡ pos 0 = (Decides-int_eq n (pos 0)).0 d.1 in
    let constant : cast_unsigned w64 n ≡ 0 = rw number refl in
    elim (eqb_tells dst 0) [
      | inl first ↦
          let tested_word : word s dst ≡ 0 = ap (word s) first.1 ∙ zero_there in
          goes b c (word s dst) (cast_unsigned w64 n) s.slot (target_slot s.slot distance) a.1 tested_word constant
      | inr other ↦ absurd (let bad : false ≡ true = sym other.0 ∙ d.0 in cc)
    ]
passes_test bytes device s i c is zero_there = absurd (let bad : None ≡ Some c = is in cc)

-- What a run asks of a step: it has the limit that its instruction sets, and takes the edge of its test.
pub record Does (s : State) (i : Instr) (t : State) : Type 0 where
  pub sets : (k : ℕ) → limit_of i ≡ Some k → 1 < length s.registers → HasLimit k t
  pub passes : (c : Condition) → zero_test i ≡ Some c → word s 0 ≡ 0 → Passes s i c t

pub does : (program : List (Option Instr)) (context : List ℕ) (device : List (List ℕ)) (s t : State) (i : Instr) → step_of program context device s i ≡ Next t → Does s i t
does program context device s t i came = record {
  sets = λ k is wide. in_next (HasLimit k) program context device s t i (sets_limit (memory context device s) device s i k is wide) came;
  passes = λ c is zero_there. in_next (Passes s i c) program context device s t i (passes_test (memory context device s) device s i c is zero_there) came;
}

-- an instruction that sets none and tests nothing
pub quiet : (s : State) (i : Instr) (t : State) → limit_of i ≡ None → zero_test i ≡ None → Does s i t
quiet s i t sets tests = record {
  sets = λ k is wide. absurd (let bad : None ≡ Some k = sym sets ∙ is in cc);
  passes = λ c is zero_there. absurd (let bad : None ≡ Some c = sym tests ∙ is in cc);
}
