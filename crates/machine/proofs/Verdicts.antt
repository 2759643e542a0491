-- Guards keep the verdict of a run whose steps write nothing but the frame at hand: at each step the machine with guards
-- stands at the same state, each unset byte of which is 0.
use Rattle.std.proofs.Common.{ℕ, zero, suc, ◌≡◌, ◌+◌, ◌-◌, ◌*◌, ◌/◌, ◌%◌, ◌^◌, nat_lt, nat_le, ◌&&◌, Bool, true, false, if◌then◌else◌, ℤ, List, [], ◌∷◌, ◌++◌, length, map, take, Option, None, Some, unwrap_or, slice_get, slice_set, refl, sym, ap, ◌∙◌, subst, arith}
use Rattle.std.specs.Option.{option_map_or, option_and_then, option_or}
use Rattle.std.specs.Int.{cast_unsigned, w32, w64}
use Rattle.std.proofs.Math.Path.{fun_ext}
use Rattle.std.proofs.lemmas.List.{length-map}
use Rattle.base.specs.Check.{Check, check, first_failing}
use Rattle.base.specs.Numbers.{number_at, number_bytes}
use Rattle.base.specs.declared.causes.MachineFault.{MachineFault}
use Rattle.base.specs.declared.causes.MachineFault.TheVariants as fault
use Rattle.bpf_isa.specs.declared.instr.Instr.{Instr}
use Rattle.bpf_isa.specs.declared.instr.Instr.TheVariants as instr
use Rattle.bpf_isa.specs.declared.instr.Operator.TheVariants as op
use Rattle.bpf_isa.specs.Slots.{at, target_slot}
use Rattle.helpers.specs.declared.helper.Helper.{Helper}
use Rattle.helpers.specs.declared.helper.Helper.TheVariants as helper
use Rattle.helpers.specs.Helper.{helper_of}
use Rattle.helpers.specs.Answers.{sector_start, device_bytes, copy_answer, again_answer, counts_after, report_answer, codes_after}
use Rattle.helpers.specs.Queries.{query_answer}
use Rattle.machine.specs.declared.ByteAt.{ByteAt}
use Rattle.machine.specs.declared.ByteAt.TheVariants.{Unmapped, Unset, Holds}
use Rattle.machine.specs.Arithmetic.{arithmetic, sign_extension, in_order}
use Rattle.machine.specs.State.{State, Frame, Caller, context_start, stack_start, stack_end, start, word, register, unset_stack}
use Rattle.machine.specs.Memory.{addresses, all_at, all_mapped, all_set, all_in_stacks, is_mapped, value, cell, stacks, byte_at_place, in_blocks, byte_at, byte_count, plain_size, extension_of, number_from, change_at, with_byte, frames_with, context_bytes}
use Rattle.machine.specs.Step.{Stepped, Next, Done, Fault, second, address, memory, may_write, reads, goes_on, load_tests, store_tests, is_length, checks, call_checks, effect, call_effect, set_and_go, with_answer, turns_here, saved_caller, branch_slot, caller_of, exit_frame, after_checks, step, step_of, returns_to}
use Rattle.machine.specs.Outcome.{Ending, Verdict, Stopped, OutOfSteps, Stray, after, steps_end, outcome}
use Rattle.machine.specs.Guards.{filled_frame, filled, is_own, call_writes_own, writes_own, writes_own_here, guarded, stack_step, Made, memory_step, sum_step, checksum_asked, with_memory, made_of, guarded_step, guarded_after, guarded_end, guarded_outcome, WritesOwnAfter, StepsWriteOwn, GuardsKeepVerdicts}
use Rattle.machine.specs.OwnMemory.{zero_memory}
use Rattle.helpers.specs.declared.sums.Checksum.{Checksum}
use Rattle.helpers.specs.Sums.{checksum_of}
use Rattle.machine.proofs.Filled.{fill, filled_set}
use Rattle.machine.proofs.Sums.{no_helper}

-- what is filled twice is filled once

cells_again : (cells : List (Option ℕ)) → map fill (map fill cells) ≡ map fill cells
cells_again [] = refl
cells_again (c ∷ cells) = ap (λ (rest : List (Option ℕ)). fill c ∷ rest) (cells_again cells)

frame_again : (f : Frame) → filled_frame (filled_frame f) ≡ filled_frame f
frame_again f = ap (λ (cells : List (Option ℕ)). record f { stack = cells }) (cells_again f.stack)

two : {X Y Z : Type 0} (f : X → Y → Z) {x u : X} {y v : Y} → x ≡ u → y ≡ v → f x y ≡ f u v
two f {x = x} {v = v} e h = ap (f x) h ∙ ap (λ z. f z v) e

frames_again : (frames : List Frame) → map filled_frame (map filled_frame frames) ≡ map filled_frame frames
frames_again [] = refl
frames_again (f ∷ frames) = two (λ (x : Frame) (rest : List Frame). x ∷ rest) (frame_again f) (frames_again frames)

-- the bytes are the same, but that none is unset

mapped_cell : (cells : List (Option ℕ)) (i : ℕ) → is_mapped (cell (slice_get (map fill cells) i)) ≡ is_mapped (cell (slice_get cells i))
mapped_cell [] i = refl
mapped_cell (None ∷ cells) zero = refl
mapped_cell (Some n ∷ cells) zero = refl
mapped_cell (c ∷ cells) (suc i) = mapped_cell cells i

value_cell : (cells : List (Option ℕ)) (i : ℕ) → value (cell (slice_get (map fill cells) i)) ≡ value (cell (slice_get cells i))
value_cell [] i = refl
value_cell (None ∷ cells) zero = refl
value_cell (Some n ∷ cells) zero = refl
value_cell (c ∷ cells) (suc i) = value_cell cells i

abbrev CellOf : List Frame → ℕ → ℕ → ByteAt
CellOf frames q i = cell (option_and_then (λ (block : List (Option ℕ)). slice_get block i) (slice_get (stacks frames) q))

mapped_stack : (frames : List Frame) (q i : ℕ) → is_mapped (CellOf (map filled_frame frames) q i) ≡ is_mapped (CellOf frames q i)
mapped_stack [] q i = refl
mapped_stack (f ∷ frames) zero i = mapped_cell f.stack i
mapped_stack (f ∷ frames) (suc q) i = mapped_stack frames q i

value_stack : (frames : List Frame) (q i : ℕ) → value (CellOf (map filled_frame frames) q i) ≡ value (CellOf frames q i)
value_stack [] q i = refl
value_stack (f ∷ frames) zero i = value_cell f.stack i
value_stack (f ∷ frames) (suc q) i = value_stack frames q i

same_byte : {X : Type 0} (f : ByteAt → X) (none context stack other sector : ByteAt) (low middle high : Bool) → f stack ≡ f other
    → f (if low then none else if middle then context else if high then stack else sector) ≡ f (if low then none else if middle then context else if high then other else sector)
same_byte f none context stack other sector true middle high e = refl
same_byte f none context stack other sector false true high e = refl
same_byte f none context stack other sector false false true e = e
same_byte f none context stack other sector false false false e = refl

mapped_at : (context : List ℕ) (device : List (List ℕ)) (frames : List Frame) (a : ℕ)
    → is_mapped (byte_at context device (map filled_frame frames) a) ≡ is_mapped (byte_at context device frames a)
unfolding byte_at
mapped_at context device frames a =
    same_byte is_mapped _ _ _ _ _ (nat_lt a context_start) (nat_lt a stack_start) (nat_lt a sector_start) (mapped_stack frames ((a - stack_start) / 1024) ((a - stack_start) % 1024))

value_at : (context : List ℕ) (device : List (List ℕ)) (frames : List Frame) (a : ℕ)
    → value (byte_at context device (map filled_frame frames) a) ≡ value (byte_at context device frames a)
unfolding byte_at
value_at context device frames a =
    same_byte value _ _ _ _ _ (nat_lt a context_start) (nat_lt a stack_start) (nat_lt a sector_start) (value_stack frames ((a - stack_start) / 1024) ((a - stack_start) % 1024))

mapped_same : (context : List ℕ) (device : List (List ℕ)) (frames : List Frame) (a n : ℕ)
    → all_mapped (byte_at context device (map filled_frame frames)) a n ≡ all_mapped (byte_at context device frames) a n
mapped_same context device frames a n = ap (λ (test : ℕ → Bool). all_at test a n) (fun_ext (λ p. mapped_at context device frames p))

number_same : (context : List ℕ) (device : List (List ℕ)) (frames : List Frame) (a n : ℕ)
    → number_from (byte_at context device (map filled_frame frames)) a n ≡ number_from (byte_at context device frames) a n
unfolding number_from
number_same context device frames a n = ap (λ (test : ℕ → ℕ). number_at n 0 (map test (addresses a n))) (fun_ext (λ p. value_at context device frames p))

-- so are the callers, and how many frames there are

caller_at : (frames : List Frame) (k : ℕ) → option_and_then (λ (f : Frame). f.caller) (slice_get (map filled_frame frames) k) ≡ option_and_then (λ (f : Frame). f.caller) (slice_get frames k)
caller_at [] k = refl
caller_at (f ∷ frames) zero = refl
caller_at (f ∷ frames) (suc k) = caller_at frames k

count_same : (frames : List Frame) → length (map filled_frame frames) ≡ length frames
count_same frames = length-map frames filled_frame

caller_same : (frames : List Frame) → caller_of (map filled_frame frames) ≡ caller_of frames
caller_same frames =
    ap (λ (count : ℕ). option_and_then (λ (f : Frame). f.caller) (slice_get (map filled_frame frames) (count - 1))) (count_same frames) ∙ caller_at frames (length frames - 1)

own_same : (s : State) (a n : ℕ) → is_own (filled s) a n ≡ is_own s a n
unfolding filled
own_same s a n = ap (λ (count : ℕ). nat_le (stack_start + 1024 * (count - 1)) a && nat_le (a + n) (stack_start + 1024 * (count - 1) + 512)) (count_same s.frames)

call_own_same : (s : State) (h : Helper) → call_writes_own (filled s) h ≡ call_writes_own s h
unfolding filled
call_own_same s helper.Copy = own_same s (word s 2) (word s 3)
call_own_same s helper.Again = refl
call_own_same s helper.Report = refl
call_own_same s (helper.Query q) = refl

any_call_own : (s : State) (found : Option Helper) → option_map_or (call_writes_own (filled s)) found true ≡ option_map_or (call_writes_own s) found true
any_call_own s None = refl
any_call_own s (Some h) = call_own_same s h

instr_own : (s : State) (i : Instr) → writes_own (filled s) i ≡ writes_own s i
unfolding filled
instr_own s (instr.StoreImmediate size base distance n) = own_same s (address s base distance) (byte_count size)
instr_own s (instr.Store size base distance src) = own_same s (address s base distance) (byte_count size)
instr_own s (instr.CallHelper number) = any_call_own s (helper_of (cast_unsigned w32 number))
instr_own s (instr.Arithmetic w o dst from) = refl
instr_own s (instr.Negate w dst) = refl
instr_own s (instr.SignExtend e dst src) = refl
instr_own s (instr.ByteOrder o size dst) = refl
instr_own s (instr.Jump distance) = refl
instr_own s (instr.LongJump distance) = refl
instr_own s (instr.Branch w c dst from distance) = refl
instr_own s (instr.CallLocal distance) = refl
instr_own s instr.Exit = refl
instr_own s (instr.Load size dst base distance) = refl
instr_own s (instr.LoadSigned size dst base distance) = refl
instr_own s (instr.LoadImmediate dst x) = refl

found_own : (s : State) (found : Option Instr) → option_map_or (writes_own (filled s)) found true ≡ option_map_or (writes_own s) found true
found_own s None = refl
found_own s (Some i) = instr_own s i

own_here_same : (program : List (Option Instr)) (s : State) → writes_own_here program (filled s) ≡ writes_own_here program s
unfolding writes_own_here filled
own_here_same program s = found_own s (at program s.slot)

-- checks that pass pass still

one_more : (c : Check MachineFault) (xs ys : List (Check MachineFault)) → (first_failing xs ≡ None → first_failing ys ≡ None) → first_failing (c ∷ xs) ≡ None → first_failing (c ∷ ys) ≡ None
one_more c xs ys f e = by_test c.passes e
  where
    by_test : (b : Bool) → (if b then first_failing xs else Some c.cause) ≡ None → (if b then first_failing ys else Some c.cause) ≡ None
    by_test true e = f e
    by_test false e = absurd (let bad : Some c.cause ≡ None = e in cc)

one_passes : (c : MachineFault) (b : Bool) (xs ys : List (Check MachineFault)) → (first_failing xs ≡ None → first_failing ys ≡ None) → first_failing (check c b ∷ xs) ≡ None → first_failing (check c true ∷ ys) ≡ None
one_passes c true xs ys f e = f e
one_passes c false xs ys f e = absurd (let bad : Some c ≡ None = e in cc)

loads_pass : (program : List (Option Instr)) (context : List ℕ) (device : List (List ℕ)) (s : State) (a n : ℕ)
    → first_failing (load_tests program (memory context device s) s a n) ≡ None → first_failing (load_tests program (memory context device (filled s)) (filled s) a n) ≡ None
unfolding filled
loads_pass program context device s a n e =
    rw (mapped_same context device s.frames a n, filled_set context device s.frames a n)
    (one_more (check fault.Unmapped (all_mapped (memory context device s) a n)) (check fault.UnsetByte (all_set (memory context device s) a n) ∷ goes_on program (s.slot + 1) ∷ [])
    (check fault.UnsetByte true ∷ goes_on program (s.slot + 1) ∷ [])
    (one_passes fault.UnsetByte (all_set (memory context device s) a n) (goes_on program (s.slot + 1) ∷ []) (goes_on program (s.slot + 1) ∷ []) (λ fine. fine)) e)

stores_pass : (program : List (Option Instr)) (context : List ℕ) (device : List (List ℕ)) (s : State) (a n : ℕ)
    → first_failing (store_tests program (memory context device s) s a n) ≡ None → first_failing (store_tests program (memory context device (filled s)) (filled s) a n) ≡ None
unfolding filled
stores_pass program context device s a n e = rw (mapped_same context device s.frames a n) e

calls_pass : (program : List (Option Instr)) (context : List ℕ) (device : List (List ℕ)) (s : State) (h : Helper)
    → first_failing (call_checks program (memory context device s) s h) ≡ None → first_failing (call_checks program (memory context device (filled s)) (filled s) h) ≡ None
unfolding call_checks filled
calls_pass program context device s helper.Copy e =
    one_more (reads s (1 ∷ 2 ∷ 3 ∷ [])) (check fault.HelperArgument (is_length (word s 3)) ∷ store_tests program (memory context device s) s (word s 2) (word s 3))
    (check fault.HelperArgument (is_length (word s 3)) ∷ store_tests program (memory context device (filled s)) (filled s) (word s 2) (word s 3))
    (one_more (check fault.HelperArgument (is_length (word s 3))) (store_tests program (memory context device s) s (word s 2) (word s 3))
    (store_tests program (memory context device (filled s)) (filled s) (word s 2) (word s 3)) (stores_pass program context device s (word s 2) (word s 3))) e
calls_pass program context device s helper.Again e = e
calls_pass program context device s helper.Report e = e
calls_pass program context device s (helper.Query q) e = e

any_call_passes : (program : List (Option Instr)) (context : List ℕ) (device : List (List ℕ)) (s : State) (found : Option Helper)
    → first_failing (option_map_or (call_checks program (memory context device s) s) found (check fault.UnknownHelper false ∷ [])) ≡ None
    → first_failing (option_map_or (call_checks program (memory context device (filled s)) (filled s)) found (check fault.UnknownHelper false ∷ [])) ≡ None
any_call_passes program context device s None e = e
any_call_passes program context device s (Some h) e = calls_pass program context device s h e

checks_pass : (program : List (Option Instr)) (context : List ℕ) (device : List (List ℕ)) (s : State) (i : Instr)
    → first_failing (checks program (memory context device s) s i) ≡ None → first_failing (checks program (memory context device (filled s)) (filled s) i) ≡ None
unfolding checks filled
checks_pass program context device s (instr.Arithmetic w o dst from) e = e
checks_pass program context device s (instr.Negate w dst) e = e
checks_pass program context device s (instr.SignExtend x dst src) e = e
checks_pass program context device s (instr.ByteOrder o size dst) e = e
checks_pass program context device s (instr.Jump distance) e = e
checks_pass program context device s (instr.LongJump distance) e = e
checks_pass program context device s (instr.Branch w c dst from distance) e = e
checks_pass program context device s (instr.CallHelper number) e = any_call_passes program context device s (helper_of (cast_unsigned w32 number)) e
checks_pass program context device s (instr.CallLocal distance) e = rw (count_same s.frames) e
checks_pass program context device s instr.Exit e = rw (caller_same s.frames) e
checks_pass program context device s (instr.Load size dst base distance) e =
    let a = address s base distance in
    one_more (may_write dst) (reads s (base ∷ []) ∷ load_tests program (memory context device s) s a (byte_count size)) (reads s (base ∷ []) ∷ load_tests program (memory context device (filled s)) (filled s) a (byte_count size))
    (one_more (reads s (base ∷ [])) (load_tests program (memory context device s) s a (byte_count size)) (load_tests program (memory context device (filled s)) (filled s) a (byte_count size))
    (loads_pass program context device s a (byte_count size))) e
checks_pass program context device s (instr.LoadSigned size dst base distance) e =
    let a = address s base distance in
    let n = byte_count (plain_size size) in
    one_more (may_write dst) (reads s (base ∷ []) ∷ load_tests program (memory context device s) s a n) (reads s (base ∷ []) ∷ load_tests program (memory context device (filled s)) (filled s) a n)
    (one_more (reads s (base ∷ [])) (load_tests program (memory context device s) s a n) (load_tests program (memory context device (filled s)) (filled s) a n)
    (loads_pass program context device s a n)) e
checks_pass program context device s (instr.StoreImmediate size base distance n) e =
    one_more (reads s (base ∷ [])) (store_tests program (memory context device s) s (address s base distance) (byte_count size)) (store_tests program (memory context device (filled s)) (filled s) (address s base distance) (byte_count size))
    (stores_pass program context device s (address s base distance) (byte_count size)) e
checks_pass program context device s (instr.Store size base distance src) e =
    one_more (reads s (base ∷ src ∷ [])) (store_tests program (memory context device s) s (address s base distance) (byte_count size)) (store_tests program (memory context device (filled s)) (filled s) (address s base distance) (byte_count size))
    (stores_pass program context device s (address s base distance) (byte_count size)) e
checks_pass program context device s (instr.LoadImmediate dst x) e = e

-- effects come to the same states, filled

abbrev next_filled : Stepped → Stepped
next_filled (Next t) = Next (filled t)
next_filled (Done answer codes) = Done answer codes
next_filled (Fault cause slot) = Fault cause slot

frames_same : (t : State) (fs gs : List Frame) → map filled_frame fs ≡ map filled_frame gs → Next (filled (record t { frames = fs })) ≡ Next (filled (record t { frames = gs }))
unfolding filled
frames_same t fs gs e = ap (λ (frames : List Frame). Next (record t { frames = frames })) e

kept : (s t : State) → Next (filled (record t { frames = map filled_frame s.frames })) ≡ Next (filled (record t { frames = s.frames }))
kept s t = frames_same t (map filled_frame s.frames) s.frames (frames_again s.frames)

set_cells : (cells : List (Option ℕ)) (k b : ℕ) → slice_set (map fill cells) k (Some b) ≡ map fill (slice_set cells k (Some b))
set_cells [] k b = refl
set_cells (c ∷ cells) zero b = refl
set_cells (c ∷ cells) (suc k) b = ap (λ (rest : List (Option ℕ)). fill c ∷ rest) (set_cells cells k b)

changed_frames : (g : Frame → Frame) → ((f : Frame) → g (filled_frame f) ≡ filled_frame (g f)) → (i : ℕ) (frames : List Frame) → change_at i g (map filled_frame frames) ≡ map filled_frame (change_at i g frames)
changed_frames g h i [] = refl
changed_frames g h zero (f ∷ frames) = ap (λ (x : Frame). x ∷ map filled_frame frames) (h f)
changed_frames g h (suc i) (f ∷ frames) = ap (λ (rest : List Frame). filled_frame f ∷ rest) (changed_frames g h i frames)

abbrev put : ℕ → ℕ → Frame → Frame
put k b f = record f { stack = slice_set f.stack k (Some b) }

put_filled : (k b : ℕ) (f : Frame) → put k b (filled_frame f) ≡ filled_frame (put k b f)
put_filled k b f = ap (λ (cells : List (Option ℕ)). record f { stack = cells }) (set_cells f.stack k b)

byte_filled : (frames : List Frame) (a b : ℕ) → with_byte (map filled_frame frames) a b ≡ map filled_frame (with_byte frames a b)
unfolding with_byte
byte_filled frames a b = by_place (nat_lt a stack_start)
  where
    by_place : (low : Bool) → (if low then map filled_frame frames else change_at ((a - stack_start) / 1024) (put ((a - stack_start) % 1024) b) (map filled_frame frames))
        ≡ map filled_frame (if low then frames else change_at ((a - stack_start) / 1024) (put ((a - stack_start) % 1024) b) frames)
    by_place true = refl
    by_place false = changed_frames (put ((a - stack_start) % 1024) b) (put_filled ((a - stack_start) % 1024) b) ((a - stack_start) / 1024) frames

bytes_filled : (bytes : List ℕ) (frames : List Frame) (a : ℕ) → frames_with (map filled_frame frames) a bytes ≡ map filled_frame (frames_with frames a bytes)
unfolding frames_with
bytes_filled [] frames a = refl
bytes_filled (b ∷ bytes) frames a =
    ap (λ (fs : List Frame). frames_with fs ((a + 1) % 2 ^ 64) bytes) (byte_filled frames a b) ∙ bytes_filled bytes (with_byte frames a b) ((a + 1) % 2 ^ 64)

stored : (s t : State) (a : ℕ) (bytes : List ℕ) → Next (filled (record t { frames = frames_with (map filled_frame s.frames) a bytes })) ≡ Next (filled (record t { frames = frames_with s.frames a bytes }))
stored s t a bytes =
    frames_same t (frames_with (map filled_frame s.frames) a bytes) (frames_with s.frames a bytes)
    (ap (map filled_frame) (bytes_filled bytes s.frames a) ∙ frames_again (frames_with s.frames a bytes))

calls_same : (device : List (List ℕ)) (s : State) (h : Helper) → next_filled (call_effect device (filled s) h) ≡ next_filled (call_effect device s h)
unfolding call_effect filled
calls_same device s helper.Copy =
    stored s (record s { slot = s.slot + 1; registers = with_answer s.registers (copy_answer device (word s 1) (word s 3)) }) (word s 2) (device_bytes device (word s 1) (word s 3))
calls_same device s helper.Again =
    kept s (record s { slot = s.slot + 1; registers = with_answer s.registers (again_answer (turns_here s) (word s 1)); turns = counts_after s.turns s.slot (word s 1) })
calls_same device s helper.Report =
    kept s (record s { slot = s.slot + 1; registers = with_answer s.registers (report_answer s.codes); codes = codes_after s.codes (word s 1) })
calls_same device s (helper.Query q) = kept s (record s { slot = s.slot + 1; registers = with_answer s.registers (query_answer device q (word s 1) (word s 2) (word s 3)) })

any_call_same : (device : List (List ℕ)) (s : State) (found : Option Helper)
    → next_filled (option_map_or (call_effect device (filled s)) found (Next (filled s))) ≡ next_filled (option_map_or (call_effect device s) found (Next s))
unfolding filled
any_call_same device s None = kept s s
any_call_same device s (Some h) = calls_same device s h

appended : (frames gs : List Frame) → map filled_frame (map filled_frame frames ++ gs) ≡ map filled_frame (frames ++ gs)
appended [] gs = refl
appended (f ∷ frames) gs = two (λ (x : Frame) (rest : List Frame). x ∷ rest) (frame_again f) (appended frames gs)

taken : (n : ℕ) (frames : List Frame) → map filled_frame (take n (map filled_frame frames)) ≡ map filled_frame (take n frames)
taken zero frames = refl
taken (suc n) [] = refl
taken (suc n) (f ∷ frames) = two (λ (x : Frame) (rest : List Frame). x ∷ rest) (frame_again f) (taken n frames)

left_same : (s : State) (found : Option Caller) → next_filled (exit_frame (filled s) found) ≡ next_filled (exit_frame s found)
unfolding filled
left_same s None = refl
left_same s (Some c) =
    frames_same (record s { slot = c.slot; registers = register s 0 ∷ None ∷ None ∷ None ∷ None ∷ None ∷ c.registers }) (take (length (map filled_frame s.frames) - 1) (map filled_frame s.frames)) (take (length s.frames - 1) s.frames)
    (ap (λ (count : ℕ). map filled_frame (take (count - 1) (map filled_frame s.frames))) (count_same s.frames) ∙ taken (length s.frames - 1) s.frames)

entered : State → ℕ → ℕ → List Frame → State
entered s entry count frames = record s {
  slot = entry;
  registers = None ∷ register s 1 ∷ register s 2 ∷ register s 3 ∷ register s 4 ∷ register s 5 ∷ None ∷ None ∷ None ∷ None ∷ Some (stack_end count) ∷ [];
  frames = frames;
}

entered_same : (s : State) (entry : ℕ) (f : Frame)
    → Next (filled (entered s entry (length (map filled_frame s.frames)) (map filled_frame s.frames ++ f ∷ []))) ≡ Next (filled (entered s entry (length s.frames) (s.frames ++ f ∷ [])))
unfolding entered
entered_same s entry f =
    ap (λ (count : ℕ). Next (filled (entered s entry count (map filled_frame s.frames ++ f ∷ [])))) (count_same s.frames)
    ∙ frames_same (entered s entry (length s.frames) []) (map filled_frame s.frames ++ f ∷ []) (s.frames ++ f ∷ []) (appended s.frames (f ∷ []))

effect_same : (context : List ℕ) (device : List (List ℕ)) (s : State) (i : Instr)
    → next_filled (effect (memory context device (filled s)) device (filled s) i) ≡ next_filled (effect (memory context device s) device s i)
unfolding effect filled entered
effect_same context device s (instr.Arithmetic w o dst from) = kept s (record s { slot = s.slot + 1; registers = slice_set s.registers dst (Some (arithmetic w o (word s dst) (second s from))) })
effect_same context device s (instr.Negate w dst) = kept s (record s { slot = s.slot + 1; registers = slice_set s.registers dst (Some (arithmetic w op.Sub 0 (word s dst))) })
effect_same context device s (instr.SignExtend e dst src) = kept s (record s { slot = s.slot + 1; registers = slice_set s.registers dst (Some (sign_extension e (word s src))) })
effect_same context device s (instr.ByteOrder o size dst) = kept s (record s { slot = s.slot + 1; registers = slice_set s.registers dst (Some (in_order o size (word s dst))) })
effect_same context device s (instr.Jump distance) = kept s (record s { slot = target_slot s.slot distance })
effect_same context device s (instr.LongJump distance) = kept s (record s { slot = target_slot s.slot distance })
effect_same context device s (instr.Branch w c dst from distance) = kept s (record s { slot = branch_slot s w c dst from distance })
effect_same context device s (instr.CallHelper number) = any_call_same device s (helper_of (cast_unsigned w32 number))
effect_same context device s (instr.CallLocal distance) = entered_same s (target_slot s.slot distance) (record { stack = unset_stack; caller = Some (saved_caller s) })
effect_same context device s instr.Exit =
    ap (λ (found : Option Caller). next_filled (exit_frame (filled s) found)) (caller_same s.frames) ∙ left_same s (caller_of s.frames)
effect_same context device s (instr.Load size dst base distance) =
    rw (number_same context device s.frames (address s base distance) (byte_count size))
    (kept s (record s { slot = s.slot + 1; registers = slice_set s.registers dst (Some (number_from (memory context device s) (address s base distance) (byte_count size))) }))
effect_same context device s (instr.LoadSigned size dst base distance) =
    rw (number_same context device s.frames (address s base distance) (byte_count (plain_size size)))
    (kept s (record s { slot = s.slot + 1; registers = slice_set s.registers dst (Some (sign_extension (extension_of size) (number_from (memory context device s) (address s base distance) (byte_count (plain_size size))))) }))
effect_same context device s (instr.StoreImmediate size base distance n) = stored s (record s { slot = s.slot + 1 }) (address s base distance) (number_bytes (byte_count size) (cast_unsigned w64 n))
effect_same context device s (instr.Store size base distance src) = stored s (record s { slot = s.slot + 1 }) (address s base distance) (number_bytes (byte_count size) (word s src))
effect_same context device s (instr.LoadImmediate dst x) = kept s (record s { slot = s.slot + 2; registers = slice_set s.registers dst (Some x) })

-- steps that are no fault

abbrev NoFault : Stepped → Type 0
NoFault (Fault cause slot) = ⊥
NoFault _ = Unit {0}

step_checked : (s : State) (found : Option MachineFault) (x : Stepped) → NoFault (option_map_or (λ cause. Fault cause s.slot) found x) → found ≡ None
step_checked s None x fine = refl
step_checked s (Some cause) x fine = absurd fine

step_same : (program : List (Option Instr)) (context : List ℕ) (device : List (List ℕ)) (s : State) (i : Instr) → NoFault (step_of program context device s i)
    → next_filled (step_of program context device (filled s) i) ≡ next_filled (step_of program context device s i)
unfolding step_of
step_same program context device s i fine =
    let pass : first_failing (checks program (memory context device s) s i) ≡ None =
    step_checked s (first_failing (checks program (memory context device s) s i)) (effect (memory context device s) device s i) fine in
    rw (pass, checks_pass program context device s i pass) (effect_same context device s i)

found_same : (program : List (Option Instr)) (context : List ℕ) (device : List (List ℕ)) (s : State) (found : Option Instr)
    → NoFault (option_map_or (step_of program context device s) found (Fault fault.NoInstruction s.slot))
    → next_filled (option_map_or (step_of program context device (filled s)) found (Fault fault.NoInstruction s.slot))
    ≡ next_filled (option_map_or (step_of program context device s) found (Fault fault.NoInstruction s.slot))
found_same program context device s None fine = absurd fine
found_same program context device s (Some i) fine = step_same program context device s i fine

-- what a step with guards comes to, where it isn't a fault and writes its own
own_guarded : (x : Stepped) → NoFault (next_filled x) → guarded true x ≡ Some (next_filled x)
own_guarded (Next t) fine = refl
own_guarded (Done answer codes) fine = refl
own_guarded (Fault cause slot) fine = absurd fine

filled_no_fault : (x : Stepped) → NoFault x → NoFault (next_filled x)
filled_no_fault (Next t) fine = fine
filled_no_fault (Done answer codes) fine = fine
filled_no_fault (Fault cause slot) fine = fine

stack_step_same : (program : List (Option Instr)) (context : List ℕ) (device : List (List ℕ)) (s : State) → writes_own_here program s ≡ true → NoFault (step program context device s)
    → stack_step program context device (filled s) ≡ Some (next_filled (step program context device s))
unfolding stack_step filled
stack_step_same program context device s own fine =
    let same : next_filled (step program context device (filled s)) ≡ next_filled (step program context device s) = found_same program context device s (at program s.slot) fine in
    let own_too : writes_own_here program (filled s) ≡ true = own_here_same program s ∙ own in
    let none : NoFault (next_filled (step program context device (filled s))) = rw same (filled_no_fault (step program context device s) fine) in
    rw own_too (own_guarded (step program context device (filled s)) none ∙ ap (λ (x : Stepped). Some x) same)

-- an instruction that asks for a checksum is a fault without guards
unasked : (program : List (Option Instr)) (context : List ℕ) (device : List (List ℕ)) (s : State) (i : Instr) → NoFault (step_of program context device s i) → checksum_asked i ≡ None
unfolding step_of checks
unasked program context device s (instr.CallHelper number) fine = by (checksum_of (cast_unsigned w32 number)) refl
  where
    no_call : (found : Option Helper) (x : Stepped) → found ≡ None
        → NoFault (option_map_or (λ cause. Fault cause s.slot) (first_failing (option_map_or (call_checks program (memory context device s) s) found (check fault.UnknownHelper false ∷ []))) x) → ⊥
    no_call None x e fault = fault
    no_call (Some h) x e fault = absurd (let bad : Some h ≡ None = e in cc)

    by : (asked : Option Checksum) → checksum_of (cast_unsigned w32 number) ≡ asked → asked ≡ None
    by None e = refl
    by (Some c) e = absurd (no_call (helper_of (cast_unsigned w32 number)) _ (no_helper (cast_unsigned w32 number) c e) fine)
unasked program context device s (instr.Arithmetic w o dst from) fine = refl
unasked program context device s (instr.Negate w dst) fine = refl
unasked program context device s (instr.SignExtend e dst src) fine = refl
unasked program context device s (instr.ByteOrder o size dst) fine = refl
unasked program context device s (instr.Jump distance) fine = refl
unasked program context device s (instr.LongJump distance) fine = refl
unasked program context device s (instr.Branch w c dst from distance) fine = refl
unasked program context device s (instr.CallLocal distance) fine = refl
unasked program context device s instr.Exit fine = refl
unasked program context device s (instr.Load size dst base distance) fine = refl
unasked program context device s (instr.LoadSigned size dst base distance) fine = refl
unasked program context device s (instr.StoreImmediate size base distance n) fine = refl
unasked program context device s (instr.Store size base distance src) fine = refl
unasked program context device s (instr.LoadImmediate dst x) fine = refl

guarded_step_same : (program : List (Option Instr)) (context : List ℕ) (device : List (List ℕ)) (m : List ℕ) (s : State) → writes_own_here program s ≡ true → NoFault (step program context device s)
    → guarded_step program context device m (filled s) ≡ Some (record { stepped = next_filled (step program context device s); memory = m })
unfolding made_of filled
guarded_step_same program context device m s own fine = by (at program s.slot) refl fine
  where
    by : (found : Option Instr) → at program s.slot ≡ found → NoFault (option_map_or (step_of program context device s) found (Fault fault.NoInstruction s.slot))
        → option_map_or (made_of program context device m (filled s)) found (with_memory m (Some (Fault fault.NoInstruction s.slot))) ≡ Some (record { stepped = next_filled (step program context device s); memory = m })
    by None e none = absurd none
    by (Some i) e some =
        ap (λ (asked : Option Checksum). option_map_or (λ c. with_memory m (sum_step program device m (filled s) c)) asked (option_or (with_memory m (stack_step program context device (filled s))) (memory_step program device m (filled s) i)))
        (unasked program context device s i some)
        ∙ ap (λ (x : Option Stepped). option_or (with_memory m x) (memory_step program device m (filled s) i)) (stack_step_same program context device s own fine)

verdict_no_fault : (rest : State → Ending) (x : Stepped) (answer : ℕ) (codes : List ℕ) → after rest x ≡ Verdict answer codes → NoFault x
verdict_no_fault rest (Next t) answer codes e = tt
verdict_no_fault rest (Done a c) answer codes e = tt
verdict_no_fault rest (Fault cause slot) answer codes e = absurd (let bad : Stopped cause slot ≡ Verdict answer codes = e in cc)

goes_on_same : (before : State → Ending) (later : List ℕ → State → Ending) (own : State → Type 0) (slot : ℕ) (m : List ℕ) (x : Stepped) (answer : ℕ) (codes : List ℕ)
    → ((t : State) → own t → before t ≡ Verdict answer codes → later m (filled t) ≡ Verdict answer codes) → WritesOwnAfter own x → after before x ≡ Verdict answer codes
    → guarded_after later slot (Some (record { stepped = next_filled x; memory = m })) ≡ Verdict answer codes
goes_on_same before later own slot m (Next t) answer codes rest writes e = rest t writes e
goes_on_same before later own slot m (Done a c) answer codes rest writes e = e
goes_on_same before later own slot m (Fault cause place) answer codes rest writes e = absurd (let bad : Stopped cause place ≡ Verdict answer codes = e in cc)

verdict_from : (program : List (Option Instr)) (context : List ℕ) (device : List (List ℕ)) (answer : ℕ) (codes : List ℕ) (n : ℕ) (m : List ℕ) (s : State)
    → StepsWriteOwn program context device n s → steps_end program context device n s ≡ Verdict answer codes → guarded_end program context device n m (filled s) ≡ Verdict answer codes
unfolding steps_end guarded_end StepsWriteOwn
verdict_from program context device answer codes zero m s writes e = absurd (let bad : OutOfSteps ≡ Verdict answer codes = e in cc)
verdict_from program context device answer codes (suc n) m s writes e =
    let fine : NoFault (step program context device s) = verdict_no_fault (steps_end program context device n) (step program context device s) answer codes e in
    ap (guarded_after (guarded_end program context device n) (filled s).slot) (guarded_step_same program context device m s writes.0 fine)
    ∙ goes_on_same (steps_end program context device n) (guarded_end program context device n) (StepsWriteOwn program context device n) (filled s).slot m (step program context device s) answer codes
    (verdict_from program context device answer codes n m) writes.1 e

pub keep_verdicts : GuardsKeepVerdicts
unfolding guarded_outcome outcome
keep_verdicts program device context limit answer codes writes e = verdict_from program (context_bytes context) device answer codes limit zero_memory start writes e
