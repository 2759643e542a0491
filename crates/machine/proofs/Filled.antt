-- Runs with guards have no unset byte: they stop at no fault of their memory, and keep a verdict.
use Rattle.std.proofs.Common.{ℕ, zero, suc, ◌≡◌, ◌+◌, ◌-◌, ◌*◌, ◌/◌, ◌%◌, ◌^◌, nat_lt, nat_le, not, ◌&&◌, ◌||◌, Bool, true, false, if◌then◌else◌, ℤ, List, [], ◌∷◌, ◌++◌, length, map, take, drop, Option, None, Some, unwrap_or, slice_get, slice_set, refl, sym, ap, ◌∙◌, arith, is_some, subst}
use Rattle.std.specs.Option.{option_map, option_map_or, option_and_then, option_or}
use Rattle.std.specs.Int.{cast_unsigned, w32, w64}
use Rattle.std.specs.List.{list_all, list_any}
use Rattle.std.proofs.lemmas.List.{length-map, take-map, drop-map}
use Rattle.base.specs.Check.{Check, check, first_failing}
use Rattle.base.specs.declared.causes.MachineFault.{MachineFault}
use Rattle.base.specs.declared.causes.MachineFault.TheVariants as fault
use Rattle.bpf_isa.specs.declared.instr.Instr.{Instr}
use Rattle.bpf_isa.specs.declared.instr.Instr.TheVariants as instr
use Rattle.bpf_isa.specs.Slots.{at}
use Rattle.helpers.specs.declared.helper.Helper.{Helper}
use Rattle.helpers.specs.declared.helper.Helper.TheVariants as helper
use Rattle.helpers.specs.Helper.{helper_of}
use Rattle.helpers.specs.Answers.{sector_start}
use Rattle.helpers.specs.declared.sums.Checksum.{Checksum}
use Rattle.helpers.specs.declared.sums.Checksum.TheVariants as sums
use Rattle.helpers.specs.Sums.{taken, sum_answer}
use Rattle.helpers.specs.Queries.{query_for, query_arguments, query_answer}
use Rattle.machine.specs.declared.ByteAt.{ByteAt}
use Rattle.machine.specs.declared.ByteAt.TheVariants.{Unmapped, Unset, Holds}
use Rattle.machine.specs.State.{State, Frame, Caller, context_start, stack_start, start, word, register}
use Rattle.machine.specs.Memory.{addresses, all_at, all_set, is_set, cell, stacks, byte_at_place, in_blocks, byte_at, byte_count, plain_size, extension_of, context_bytes}
use Rattle.machine.specs.Step.{Stepped, Next, Done, Fault, address, memory, checks, call_checks, effect, call_effect, caller_of, exit_frame, after_checks, step, step_of, returns_to, reads, is_length, answer_step}
use Rattle.machine.specs.Outcome.{Ending, Verdict, Stopped, OutOfSteps, Stray, after}
use Rattle.base.specs.Numbers.{number_at, number_bytes}
use Rattle.machine.specs.Arithmetic.{sign_extension}
use Rattle.machine.specs.OwnMemory.{memory_start, zero_memory, is_in_memory, overwritten, bytes_in, bytes_within}
use Rattle.machine.specs.Guards.{filled_frame, filled, writes_own_here, is_place, guarded, stack_step, Made, goes_next, memory_call, memory_step, own_bytes, answers_step, sum_step, checksum_asked, with_memory, made_of, guarded_step, guarded_after, guarded_end, guarded_outcome, IsOfMemory, NoMemoryFault}

abbrev pub fill : Option ℕ → Option ℕ
fill c = Some (unwrap_or c 0)

-- no byte of a filled stack is unset

set_cell : (cells : List (Option ℕ)) (i : ℕ) → is_set (cell (slice_get (map fill cells) i)) ≡ true
set_cell [] i = refl
set_cell (c ∷ cells) zero = refl
set_cell (c ∷ cells) (suc i) = set_cell cells i

set_stack : (frames : List Frame) (q i : ℕ) → is_set (cell (option_and_then (λ (block : List (Option ℕ)). slice_get block i) (slice_get (stacks (map filled_frame frames)) q))) ≡ true
set_stack [] q i = refl
set_stack (f ∷ frames) zero i = set_cell f.stack i
set_stack (f ∷ frames) (suc q) i = set_stack frames q i

held_set : (x : Option ℕ) → is_set (byte_at_place x) ≡ true
held_set None = refl
held_set (Some n) = refl

either_set : (none context stack sector : ByteAt) (low middle high : Bool) → is_set none ≡ true → is_set context ≡ true → is_set stack ≡ true → is_set sector ≡ true
    → is_set (if low then none else if middle then context else if high then stack else sector) ≡ true
either_set none context stack sector true middle high a b c d = a
either_set none context stack sector false true high a b c d = b
either_set none context stack sector false false true a b c d = c
either_set none context stack sector false false false a b c d = d

set_at : (context : List ℕ) (device : List (List ℕ)) (frames : List Frame) (a : ℕ) → is_set (byte_at context device (map filled_frame frames) a) ≡ true
unfolding byte_at
set_at context device frames a =
    either_set _ _ _ _ (nat_lt a context_start) (nat_lt a stack_start) (nat_lt a sector_start) refl (held_set (slice_get context (a - context_start)))
    (set_stack frames ((a - stack_start) / 1024) ((a - stack_start) % 1024)) (held_set (in_blocks device (a - sector_start)))

all_pass : (test : ℕ → Bool) → ((a : ℕ) → test a ≡ true) → (n a : ℕ) → list_all test (addresses a n) ≡ true
all_pass test h zero a = refl
all_pass test h (suc n) a = rw (h a, all_pass test h n ((a + 1) % 2 ^ 64)) refl

pub filled_set : (context : List ℕ) (device : List (List ℕ)) (frames : List Frame) (a n : ℕ) → all_set (byte_at context device (map filled_frame frames)) a n ≡ true
unfolding all_at
filled_set context device frames a n = all_pass (λ at. is_set (byte_at context device (map filled_frame frames) at)) (set_at context device frames) n a

-- so no check fails for an unset byte

abbrev is_unset_byte : MachineFault → Bool
is_unset_byte fault.UnsetByte = true
is_unset_byte _ = false

abbrev misses_byte : Check MachineFault → Bool
misses_byte c = is_unset_byte c.cause && not c.passes

abbrev Lacks : List (Check MachineFault) → Type 0
Lacks list = list_any misses_byte list ≡ false

call_lacks : (program : List (Option Instr)) (bytes : ℕ → ByteAt) (s : State) (h : Helper) → Lacks (call_checks program bytes s h)
unfolding call_checks
call_lacks program bytes s helper.Copy = refl
call_lacks program bytes s helper.Again = refl
call_lacks program bytes s helper.Report = refl
call_lacks program bytes s (helper.Query q) = refl

any_call_lacks : (program : List (Option Instr)) (bytes : ℕ → ByteAt) (s : State) (found : Option Helper)
    → Lacks (option_map_or (call_checks program bytes s) found (check fault.UnknownHelper false ∷ []))
any_call_lacks program bytes s None = refl
any_call_lacks program bytes s (Some h) = call_lacks program bytes s h

exit_lacks : (program : List (Option Instr)) (s : State) (found : Option Caller) → Lacks (reads s (0 ∷ []) ∷ returns_to program found)
exit_lacks program s None = refl
exit_lacks program s (Some c) = refl

checks_lack : (program : List (Option Instr)) (bytes : ℕ → ByteAt) → ((a n : ℕ) → all_set bytes a n ≡ true) → (s : State) (i : Instr) → Lacks (checks program bytes s i)
unfolding checks
checks_lack program bytes set s (instr.Arithmetic w o dst from) = refl
checks_lack program bytes set s (instr.Negate w dst) = refl
checks_lack program bytes set s (instr.SignExtend e dst src) = refl
checks_lack program bytes set s (instr.ByteOrder o size dst) = refl
checks_lack program bytes set s (instr.Jump distance) = refl
checks_lack program bytes set s (instr.LongJump distance) = refl
checks_lack program bytes set s (instr.Branch w c dst from distance) = refl
checks_lack program bytes set s (instr.CallHelper number) = any_call_lacks program bytes s (helper_of (cast_unsigned w32 number))
checks_lack program bytes set s (instr.CallLocal distance) = refl
checks_lack program bytes set s instr.Exit = exit_lacks program s (caller_of s.frames)
checks_lack program bytes set s (instr.Load size dst base distance) = rw (set (address s base distance) (byte_count size)) refl
checks_lack program bytes set s (instr.LoadSigned size dst base distance) = rw (set (address s base distance) (byte_count (plain_size size))) refl
checks_lack program bytes set s (instr.StoreImmediate size base distance n) = refl
checks_lack program bytes set s (instr.Store size base distance src) = refl
checks_lack program bytes set s (instr.LoadImmediate dst x) = refl

-- whether a step is the fault of an unset byte

abbrev is_unset_step : Stepped → Bool
is_unset_step (Fault fault.UnsetByte slot) = true
is_unset_step _ = false

call_no_fault : (device : List (List ℕ)) (s : State) (h : Helper) → is_unset_step (call_effect device s h) ≡ false
unfolding call_effect
call_no_fault device s helper.Copy = refl
call_no_fault device s helper.Again = refl
call_no_fault device s helper.Report = refl
call_no_fault device s (helper.Query q) = refl

any_call_no_fault : (device : List (List ℕ)) (s : State) (found : Option Helper) → is_unset_step (option_map_or (call_effect device s) found (Next s)) ≡ false
any_call_no_fault device s None = refl
any_call_no_fault device s (Some h) = call_no_fault device s h

exit_no_fault : (s : State) (found : Option Caller) → is_unset_step (exit_frame s found) ≡ false
exit_no_fault s None = refl
exit_no_fault s (Some c) = refl

effect_no_fault : (bytes : ℕ → ByteAt) (device : List (List ℕ)) (s : State) (i : Instr) → is_unset_step (effect bytes device s i) ≡ false
unfolding effect
effect_no_fault bytes device s (instr.Arithmetic w o dst from) = refl
effect_no_fault bytes device s (instr.Negate w dst) = refl
effect_no_fault bytes device s (instr.SignExtend e dst src) = refl
effect_no_fault bytes device s (instr.ByteOrder o size dst) = refl
effect_no_fault bytes device s (instr.Jump distance) = refl
effect_no_fault bytes device s (instr.LongJump distance) = refl
effect_no_fault bytes device s (instr.Branch w c dst from distance) = refl
effect_no_fault bytes device s (instr.CallHelper number) = any_call_no_fault device s (helper_of (cast_unsigned w32 number))
effect_no_fault bytes device s (instr.CallLocal distance) = refl
effect_no_fault bytes device s instr.Exit = exit_no_fault s (caller_of s.frames)
effect_no_fault bytes device s (instr.Load size dst base distance) = refl
effect_no_fault bytes device s (instr.LoadSigned size dst base distance) = refl
effect_no_fault bytes device s (instr.StoreImmediate size base distance n) = refl
effect_no_fault bytes device s (instr.Store size base distance src) = refl
effect_no_fault bytes device s (instr.LoadImmediate dst x) = refl

rest_lacks : (a b : Bool) → (a || b) ≡ false → b ≡ false
rest_lacks true b h = absurd (let bad : true ≡ false = h in cc)
rest_lacks false b h = h

-- the first of some checks that fails is no unset byte, where that of the others isn't
one_checked : (slot : ℕ) (passes : Bool) (cause : MachineFault) (rest : List (Check MachineFault)) (done : Stepped) → (is_unset_byte cause && not passes) ≡ false
    → is_unset_step (option_map_or (λ cause. Fault cause slot) (first_failing rest) done) ≡ false
    → is_unset_step (option_map_or (λ cause. Fault cause slot) (if passes then first_failing rest else Some cause) done) ≡ false
one_checked slot true cause rest done lacks fine = fine
one_checked slot false fault.UnsetByte rest done lacks fine = absurd (let bad : true ≡ false = lacks in cc)
one_checked slot false fault.NoInstruction rest done lacks fine = refl
one_checked slot false fault.UnsetRegister rest done lacks fine = refl
one_checked slot false fault.Unmapped rest done lacks fine = refl
one_checked slot false fault.ReadOnly rest done lacks fine = refl
one_checked slot false fault.UnknownHelper rest done lacks fine = refl
one_checked slot false fault.HelperArgument rest done lacks fine = refl
one_checked slot false fault.FrameLimit rest done lacks fine = refl
one_checked slot false fault.FramePointer rest done lacks fine = refl

here_lacks : (a b : Bool) → (a || b) ≡ false → a ≡ false
here_lacks true b h = absurd (let bad : true ≡ false = h in cc)
here_lacks false b h = refl

no_fault_checked : (slot : ℕ) (list : List (Check MachineFault)) (done : Stepped) → Lacks list → is_unset_step done ≡ false
    → is_unset_step (option_map_or (λ cause. Fault cause slot) (first_failing list) done) ≡ false
no_fault_checked slot [] done lacks fine = fine
no_fault_checked slot (c ∷ rest) done lacks fine =
    one_checked slot c.passes c.cause rest done (here_lacks (misses_byte c) (list_any misses_byte rest) lacks)
    (no_fault_checked slot rest done (rest_lacks (misses_byte c) (list_any misses_byte rest) lacks) fine)

filled_steps : (program : List (Option Instr)) (context : List ℕ) (device : List (List ℕ)) (s : State) (found : Option Instr)
    → is_unset_step (option_map_or (step_of program context device (filled s)) found (Fault fault.NoInstruction (filled s).slot)) ≡ false
unfolding step_of filled
filled_steps program context device s None = refl
filled_steps program context device s (Some i) =
    no_fault_checked s.slot (checks program (memory context device (filled s)) (filled s) i) (effect (memory context device (filled s)) device (filled s) i)
    (checks_lack program (memory context device (filled s)) (filled_set context device s.frames) (filled s) i)
    (effect_no_fault (memory context device (filled s)) device (filled s) i)

-- a step with guards is no fault of the memory

abbrev is_memory_step : Option Stepped → Bool
is_memory_step (Some (Fault fault.Unmapped slot)) = true
is_memory_step (Some (Fault fault.ReadOnly slot)) = true
is_memory_step (Some (Fault fault.UnsetByte slot)) = true
is_memory_step _ = false

guards_no_fault : (own : Bool) (x : Stepped) → is_unset_step x ≡ false → is_memory_step (guarded own x) ≡ false
guards_no_fault true (Next t) e = refl
guards_no_fault false (Next t) e = refl
guards_no_fault own (Done answer codes) e = refl
guards_no_fault own (Fault fault.UnsetByte slot) e = absurd (let bad : true ≡ false = e in cc)
guards_no_fault own (Fault fault.Unmapped slot) e = refl
guards_no_fault own (Fault fault.ReadOnly slot) e = refl
guards_no_fault own (Fault fault.NoInstruction slot) e = refl
guards_no_fault own (Fault fault.UnsetRegister slot) e = refl
guards_no_fault own (Fault fault.UnknownHelper slot) e = refl
guards_no_fault own (Fault fault.HelperArgument slot) e = refl
guards_no_fault own (Fault fault.FrameLimit slot) e = refl
guards_no_fault own (Fault fault.FramePointer slot) e = refl

guarded_no_fault : (program : List (Option Instr)) (context : List ℕ) (device : List (List ℕ)) (s : State) → is_memory_step (stack_step program context device (filled s)) ≡ false
unfolding stack_step
guarded_no_fault program context device s =
    guards_no_fault (writes_own_here program (filled s)) (step program context device (filled s)) (filled_steps program context device s (at program (filled s).slot))

-- so no run ends in one: each state that it comes to is filled

memory_fault_is_one : (cause : MachineFault) (slot : ℕ) → IsOfMemory cause → is_memory_step (Some (Fault cause slot)) ≡ true
memory_fault_is_one fault.Unmapped slot h = refl
memory_fault_is_one fault.ReadOnly slot h = refl
memory_fault_is_one fault.UnsetByte slot h = refl
memory_fault_is_one fault.NoInstruction slot h = absurd h
memory_fault_is_one fault.UnsetRegister slot h = absurd h
memory_fault_is_one fault.UnknownHelper slot h = absurd h
memory_fault_is_one fault.HelperArgument slot h = absurd h
memory_fault_is_one fault.FrameLimit slot h = absurd h
memory_fault_is_one fault.FramePointer slot h = absurd h

abbrev FineStep : Stepped → Type 0
FineStep (Next t) = (u : State) × (t ≡ filled u)
FineStep (Done answer codes) = Unit {0}
FineStep (Fault cause slot) = IsOfMemory cause → ⊥

abbrev FineGuarded : Option Stepped → Type 0
FineGuarded None = Unit {0}
FineGuarded (Some x) = FineStep x

abbrev FineMade : Option Made → Type 0
FineMade None = Unit {0}
FineMade (Some made) = FineStep made.stepped

guarded_fine : (own : Bool) (x : Stepped) → is_memory_step (guarded own x) ≡ false → FineGuarded (guarded own x)
guarded_fine true (Next t) e = (t, refl)
guarded_fine false (Next t) e = tt
guarded_fine own (Done answer codes) e = tt
guarded_fine own (Fault cause slot) e = by (is_place cause) e
  where
    by : (outside : Bool) → is_memory_step (if outside then None else Some (Fault cause slot)) ≡ false → FineGuarded (if outside then None else Some (Fault cause slot))
    by true e = tt
    by false e = λ is_one. absurd (let bad : true ≡ false = sym (memory_fault_is_one cause slot is_one) ∙ e in cc)

fine_registers : (s : State) (slot : ℕ) (registers : List (Option ℕ)) → FineStep (Next (record (filled s) { slot = slot; registers = registers }))
unfolding filled
fine_registers s slot registers = (record s { slot = slot; registers = registers }, refl)

next_fine : (follows : Bool) (slot : ℕ) (x : Stepped) → FineStep x → FineStep (option_map_or (λ cause. Fault cause slot) (if follows then None else Some fault.NoInstruction) x)
next_fine true slot x fine = fine
next_fine false slot x fine = λ is_one. is_one

answered_fine : (set follows : Bool) (slot : ℕ) (x : Stepped) → FineStep x
    → FineStep (option_map_or (λ cause. Fault cause slot) (if set then (if follows then None else Some fault.NoInstruction) else Some fault.UnsetRegister) x)
answered_fine true true slot x fine = fine
answered_fine true false slot x fine = λ is_one. is_one
answered_fine false follows slot x fine = λ is_one. is_one

if_made : (inside : Bool) (x : Made) → FineStep x.stepped → FineMade (if inside then Some x else None)
if_made true x fine = fine
if_made false x fine = tt

if_copied : (fits inside : Bool) (x : Made) → FineStep x.stepped → FineMade (if fits then (if inside then Some x else None) else None)
if_copied true inside x fine = if_made inside x fine
if_copied false inside x fine = tt

call_fine : (program : List (Option Instr)) (device : List (List ℕ)) (m : List ℕ) (s : State) (h : Helper) → FineMade (memory_call program device m (filled s) h)
call_fine program device m s helper.Copy =
    if_copied (is_length (word (filled s) 3)) (is_in_memory device (word (filled s) 2) (word (filled s) 3)) _ (next_fine (is_some (at program ((filled s).slot + 1))) (filled s).slot _ (fine_registers s _ _))
call_fine program device m s helper.Again = tt
call_fine program device m s helper.Report = tt
call_fine program device m s (helper.Query q) = tt

any_call_fine : (program : List (Option Instr)) (device : List (List ℕ)) (m : List ℕ) (s : State) (found : Option Helper) → FineMade (option_map_or (memory_call program device m (filled s)) found None)
any_call_fine program device m s None = tt
any_call_fine program device m s (Some h) = call_fine program device m s h

access_fine : (program : List (Option Instr)) (device : List (List ℕ)) (s : State) (a n slot : ℕ) (registers : List (Option ℕ)) (m : List ℕ)
    → FineMade (if is_in_memory device a n then Some (record { stepped = goes_next program (filled s) (Next (record (filled s) { slot = slot; registers = registers })); memory = m }) else None)
access_fine program device s a n slot registers m =
    if_made (is_in_memory device a n) _ (next_fine (is_some (at program ((filled s).slot + 1))) (filled s).slot _ (fine_registers s slot registers))

memory_fine : (program : List (Option Instr)) (device : List (List ℕ)) (m : List ℕ) (s : State) (i : Instr) → FineMade (memory_step program device m (filled s) i)
unfolding memory_step
memory_fine program device m s (instr.Load size dst base distance) =
    access_fine program device s (address (filled s) base distance) (byte_count size) ((filled s).slot + 1)
    (slice_set (filled s).registers dst (Some (number_at (byte_count size) (address (filled s) base distance - memory_start) m))) m
memory_fine program device m s (instr.LoadSigned size dst base distance) =
    access_fine program device s (address (filled s) base distance) (byte_count (plain_size size)) ((filled s).slot + 1)
    (slice_set (filled s).registers dst (Some (sign_extension (extension_of size) (number_at (byte_count (plain_size size)) (address (filled s) base distance - memory_start) m)))) m
memory_fine program device m s (instr.StoreImmediate size base distance n) =
    access_fine program device s (address (filled s) base distance) (byte_count size) ((filled s).slot + 1) (filled s).registers
    (overwritten (address (filled s) base distance - memory_start) (number_bytes (byte_count size) (cast_unsigned w64 n)) m)
memory_fine program device m s (instr.Store size base distance src) =
    access_fine program device s (address (filled s) base distance) (byte_count size) ((filled s).slot + 1) (filled s).registers
    (overwritten (address (filled s) base distance - memory_start) (number_bytes (byte_count size) (word (filled s) src)) m)
memory_fine program device m s (instr.CallHelper number) = any_call_fine program device m s (helper_of (cast_unsigned w32 number))
memory_fine program device m s (instr.Arithmetic w o dst from) = tt
memory_fine program device m s (instr.Negate w dst) = tt
memory_fine program device m s (instr.SignExtend e dst src) = tt
memory_fine program device m s (instr.ByteOrder o size dst) = tt
memory_fine program device m s (instr.Jump distance) = tt
memory_fine program device m s (instr.LongJump distance) = tt
memory_fine program device m s (instr.Branch w c dst from distance) = tt
memory_fine program device m s (instr.CallLocal distance) = tt
memory_fine program device m s instr.Exit = tt
memory_fine program device m s (instr.LoadImmediate dst x) = tt

abbrev are_set : State → List ℕ → Bool
are_set s registers = list_all (λ r. is_some (register s r)) registers

answers_fine : (program : List (Option Instr)) (s : State) (registers : List ℕ) (answer : ℕ) → FineStep (answers_step program (filled s) registers answer)
answers_fine program s registers answer =
    answered_fine (are_set (filled s) registers) (is_some (at program ((filled s).slot + 1))) (filled s).slot _ (fine_registers s _ _)

own_fine : (set : Bool) (slot : ℕ) (f : List ℕ → Stepped) (found : Option (List ℕ)) → ((bytes : List ℕ) → FineStep (f bytes))
    → FineGuarded (option_map_or (λ cause. Some (Fault cause slot)) (if set then None else Some fault.UnsetRegister) (option_map f found))
own_fine true slot f None fine = tt
own_fine true slot f (Some bytes) fine = fine bytes
own_fine false slot f found fine = λ is_one. is_one

sum_fine : (program : List (Option Instr)) (device : List (List ℕ)) (m : List ℕ) (s : State) (c : Checksum) → FineGuarded (sum_step program device m (filled s) c)
unfolding sum_step
sum_fine program device m s (sums.OfDevice p) = answers_fine program s (query_arguments (query_for p)) _
sum_fine program device m s (sums.OfMemory p) =
    own_fine (are_set (filled s) (1 ∷ 2 ∷ 3 ∷ [])) (filled s).slot (λ bytes. answers_step program (filled s) (1 ∷ 2 ∷ 3 ∷ []) (sum_answer p (word (filled s) 1) bytes))
    (own_bytes device m (filled s) (word (filled s) 2) (taken (word (filled s) 3))) (λ bytes. answers_fine program s (1 ∷ 2 ∷ 3 ∷ []) _)

kept_fine : (m : List ℕ) (x : Option Stepped) → FineGuarded x → FineMade (with_memory m x)
kept_fine m None fine = tt
kept_fine m (Some x) fine = fine

either_fine : (x y : Option Made) → FineMade x → FineMade y → FineMade (option_or x y)
either_fine None y first second = second
either_fine (Some x) y first second = first

asked_fine : (program : List (Option Instr)) (context : List ℕ) (device : List (List ℕ)) (m : List ℕ) (s : State) (i : Instr) (asked : Option Checksum)
    → FineMade (option_map_or (λ c. with_memory m (sum_step program device m (filled s) c)) asked (option_or (with_memory m (stack_step program context device (filled s))) (memory_step program device m (filled s) i)))
unfolding stack_step
asked_fine program context device m s i None =
    either_fine (with_memory m (guarded (writes_own_here program (filled s)) (step program context device (filled s)))) (memory_step program device m (filled s) i)
    (kept_fine m _ (guarded_fine (writes_own_here program (filled s)) (step program context device (filled s)) (guarded_no_fault program context device s)))
    (memory_fine program device m s i)
asked_fine program context device m s i (Some c) = kept_fine m _ (sum_fine program device m s c)

found_fine : (program : List (Option Instr)) (context : List ℕ) (device : List (List ℕ)) (m : List ℕ) (s : State) (found : Option Instr)
    → FineMade (option_map_or (made_of program context device m (filled s)) found (with_memory m (Some (Fault fault.NoInstruction (filled s).slot))))
unfolding made_of
found_fine program context device m s None = λ is_one. is_one
found_fine program context device m s (Some i) = asked_fine program context device m s i (checksum_asked i)

abbrev stopped_cause : Ending → MachineFault
stopped_cause (Stopped cause slot) = cause
stopped_cause _ = fault.NoInstruction

-- from a filled state on, where the steps after it end in none
stepped_on : (rest : State → Ending) (place : ℕ) (cause : MachineFault) → IsOfMemory cause → (x : Stepped) → FineStep x → ((u : State) → rest (filled u) ≡ Stopped cause place → ⊥)
    → after rest x ≡ Stopped cause place → ⊥
stepped_on rest place cause of (Next t) fine never is = never fine.0 (ap rest (sym fine.1) ∙ is)
stepped_on rest place cause of (Done answer codes) fine never is = absurd (let bad : Verdict answer codes ≡ Stopped cause place = is in cc)
stepped_on rest place cause of (Fault other here) fine never is = fine (subst IsOfMemory (sym (ap stopped_cause is)) of)

made_on : (rest : List ℕ → State → Ending) (slot place : ℕ) (cause : MachineFault) → IsOfMemory cause → (x : Option Made) → FineMade x
    → ((m : List ℕ) (u : State) → rest m (filled u) ≡ Stopped cause place → ⊥) → guarded_after rest slot x ≡ Stopped cause place → ⊥
made_on rest slot place cause of None fine never is = absurd (let bad : Stray slot ≡ Stopped cause place = is in cc)
made_on rest slot place cause of (Some made) fine never is = stepped_on (rest made.memory) place cause of made.stepped fine (never made.memory) is

no_fault_from : (program : List (Option Instr)) (context : List ℕ) (device : List (List ℕ)) (cause : MachineFault) (place : ℕ) → IsOfMemory cause
    → (n : ℕ) (m : List ℕ) (s : State) → guarded_end program context device n m (filled s) ≡ Stopped cause place → ⊥
unfolding guarded_end
no_fault_from program context device cause place of zero m s is = absurd (let bad : OutOfSteps ≡ Stopped cause place = is in cc)
no_fault_from program context device cause place of (suc n) m s is =
    made_on (guarded_end program context device n) (filled s).slot place cause of (guarded_step program context device m (filled s))
    (found_fine program context device m s (at program (filled s).slot)) (no_fault_from program context device cause place of n) is

pub no_fault : NoMemoryFault
unfolding guarded_outcome
no_fault program device context limit slot cause of is = no_fault_from program (context_bytes context) device cause slot of limit zero_memory start is

-- bytes of a stack, where unset ones are set to 0

abbrev pub filled_cells : List (Option ℕ) → List (Option ℕ)
filled_cells cells = map (λ (c : Option ℕ). Some (unwrap_or c 0)) cells

abbrev pub numbers_of : List (Option ℕ) → List ℕ
numbers_of cells = map (λ (c : Option ℕ). unwrap_or c 0) cells

filled_numbers : (cells : List (Option ℕ)) → numbers_of (filled_cells cells) ≡ numbers_of cells
filled_numbers [] = refl
filled_numbers (c ∷ cells) = ap (λ (xs : List ℕ). unwrap_or c 0 ∷ xs) (filled_numbers cells)

pub within_filled : (place n : ℕ) (cells : List (Option ℕ)) → bytes_within place n (numbers_of cells) ≡ bytes_in place n (filled_cells cells)
within_filled place n cells =
    let left : length (numbers_of cells) ≡ length cells = length-map cells (λ (c : Option ℕ). unwrap_or c 0) in
    let right : length (filled_cells cells) ≡ length cells = length-map cells (λ (c : Option ℕ). Some (unwrap_or c 0)) in
    let bytes : take n (drop place (numbers_of cells)) ≡ numbers_of (take n (drop place (filled_cells cells))) =
    ap (λ (xs : List ℕ). take n (drop place xs)) (sym (filled_numbers cells))
    ∙ ap (take n) (drop-map (λ (c : Option ℕ). unwrap_or c 0) place (filled_cells cells))
    ∙ take-map (λ (c : Option ℕ). unwrap_or c 0) n (drop place (filled_cells cells)) in
    ap (λ (k : ℕ). if nat_le (place + n) k then Some (take n (drop place (numbers_of cells))) else None) (left ∙ sym right)
    ∙ ap (λ (xs : List ℕ). if nat_le (place + n) (length (filled_cells cells)) then Some xs else None) bytes
