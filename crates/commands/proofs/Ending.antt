-- The endings of programs are words: answers, codes and slots.
use Rattle.std.proofs.Common.{◌≡◌, ◌<◌, ℕ, zero, suc, ◌+◌, ◌-◌, ◌^◌, nat_lt, Bool, true, false, if◌then◌else◌, List, [], ◌∷◌, ◌++◌, length, map, take, drop, replicate, Option, None, Some, refl, arith}
use Rattle.std.specs.Option.{option_map, option_map_or, option_or, unwrap_or}
use Rattle.std.specs.List.{AllByRecursion}
use Rattle.std.specs.Int.{cast_unsigned, w32, w64}
use Rattle.std.proofs.Math.Nat.{mod-lt}
use Rattle.std.proofs.lemmas.Bool.Decides.{nat_tests}
use Rattle.std.proofs.lemmas.List.Elements.{All-from_recursion}
use Rattle.base.specs.Check.{Check, check, first_failing}
use Rattle.base.specs.Numbers.{number_at, number_bytes}
use Rattle.base.specs.declared.causes.MachineFault.{MachineFault}
use Rattle.base.specs.declared.causes.MachineFault.TheVariants as fault
use Rattle.bpf_isa.specs.declared.instr.Instr.{Instr}
use Rattle.bpf_isa.specs.declared.instr.Instr.TheVariants as instr
use Rattle.bpf_isa.specs.declared.instr.Operator.TheVariants as op
use Rattle.bpf_isa.specs.declared.instr.Size.{Size}
use Rattle.bpf_isa.specs.Program.{IsProgram}
use Rattle.bpf_isa.specs.Spelling.{IsInRange}
use Rattle.bpf_isa.specs.Slots.{at, target_slot}
use Rattle.checksums.specs.declared.polynomial.Polynomial.{Polynomial}
use Rattle.helpers.specs.declared.device.Context.{Context}
use Rattle.helpers.specs.declared.helper.Helper.{Helper}
use Rattle.helpers.specs.declared.helper.Helper.TheVariants as helper
use Rattle.helpers.specs.Helper.{helper_of}
use Rattle.helpers.specs.Answers.{device_bytes, copy_answer, again_answer, counts_after, report_answer, codes_after}
use Rattle.helpers.specs.declared.sums.Checksum.{Checksum}
use Rattle.helpers.specs.declared.sums.Checksum.TheVariants as of
use Rattle.helpers.specs.Sums.{taken, sum_answer}
use Rattle.helpers.specs.Queries.{query_for, query_arguments, query_answer}
use Rattle.helpers.proofs.Queries.{query_word, copy_most, report_most, again_most}
use Rattle.machine.specs.Arithmetic.{arithmetic, sign_extension, in_order, holds}
use Rattle.machine.specs.State.{State, Frame, Caller, word, start, stack_end, unset_stack}
use Rattle.machine.specs.Memory.{context_bytes, byte_at, byte_count, plain_size, extension_of, number_from, frames_with}
use Rattle.machine.specs.OwnMemory.{memory_start, zero_memory, is_in_memory, overwritten}
use Rattle.machine.specs.Step.{Stepped, Next, Done, Fault, second, is_length, address, branch_slot, goes_on, caller_of, turns_here, answer_step, saved_caller, enter_function, exit_frame, call_effect, checks, effect, step_of, step}
use Rattle.machine.specs.Step as machine
use Rattle.machine.specs.Outcome.{Ending, Verdict, after, steps_end, outcome}
use Rattle.machine.specs.Guards.{filled_frame, filled, writes_own_here, is_place, guarded, stack_step, Made, goes_next, memory_load, memory_write, memory_call, memory_step, own_bytes, answers_step, sum_step, checksum_asked, with_memory, made_of, guarded_step, guarded_after, guarded_end, guarded_outcome}
use Rattle.soundness.specs.Accepted.{IsImage}
use Rattle.soundness.proofs.Loads.{small_number}
use Rattle.soundness.proofs.Memory.{number_below}
use Rattle.soundness.proofs.Programs.{range_at}
use Rattle.join.specs.Printable.{IsWithin}
use Rattle.commands.proofs.Computed.{computed_word, extended_word, ordered_word}
use Rattle.commands.proofs.Holding.{IsBelow, IsSaved, IsFrame, HoldsWords, AreBelow, AreBytes, HasBytes, each_set, each_both, each_taken, register_below, word_below, second_word, far, target_word, slot_within, byte_small, below_size, number_word, copied_small, bytes_kept, answer_kept, codes_kept, unset_below, saved_there}

-- what a step comes to
abbrev GoesWell : Stepped → Type 0
GoesWell (Next t) = HoldsWords t
GoesWell (Done answer codes) = IsWithin (Verdict answer codes)
GoesWell (Fault cause slot) = slot < 2 ^ 64

-- where a machine is, and on what
record Place (device : List (List ℕ)) (context : List ℕ) (s : State) : Type 0 where
  bytes : HasBytes context device
  few : length device < 2 ^ 32
  near : s.slot < 4096
  words : HoldsWords s

tested : (s : State) (o : Option MachineFault) (done : Stepped) → HoldsWords s → (o ≡ None → GoesWell done) → GoesWell (option_map_or (λ cause. Fault cause s.slot) o done)
tested s None done h goes = goes refl
tested s (Some cause) done h goes = h.slot

set_goes : (s : State) (n dst x : ℕ) → HoldsWords s → s.slot + n < 2 ^ 64 → x < 2 ^ 64 → GoesWell (machine.set_and_go n s dst x)
set_goes s n dst x h near small = record {
  slot = near;
  registers = each_set (IsBelow (2 ^ 64)) s.registers dst (Some x) h.registers small;
  frames = h.frames;
  few = h.few;
  codes = h.codes;
}

jump_goes : (s : State) (slot : ℕ) → HoldsWords s → slot < 2 ^ 64 → GoesWell (machine.go_to slot s)
jump_goes s slot h near = record { slot = near; registers = h.registers; frames = h.frames; few = h.few; codes = h.codes }

store_goes : (s : State) (a : ℕ) (bytes : List ℕ) → HoldsWords s → s.slot + 1 < 2 ^ 64 → AreBytes bytes → GoesWell (machine.store s a bytes)
store_goes s a bytes h near small = record { slot = near; registers = h.registers; frames = bytes_kept bytes s.frames a small h.frames; few = h.few; codes = h.codes }

answer_goes : (s : State) (answer : ℕ) → HoldsWords s → s.slot + 1 < 2 ^ 64 → answer < 2 ^ 64 → GoesWell (answer_step s answer)
answer_goes s answer h near small = record { slot = near; registers = answer_kept s.registers answer h.registers small; frames = h.frames; few = h.few; codes = h.codes }

either_slot : (b : Bool) (x y : ℕ) → x < 2 ^ 64 → y < 2 ^ 64 → (if b then x else y) < 2 ^ 64
either_slot true x y left right = left
either_slot false x y left right = right

called_goes : (device : List (List ℕ)) (context : List ℕ) (s : State) (h : Helper) → Place device context s → GoesWell (call_effect device s h)
unfolding call_effect
called_goes device context s helper.Copy p =
    let near = p.near in
    let most = copy_most device (word s 1) (word s 3) in
    let frames = bytes_kept (device_bytes device (word s 1) (word s 3)) s.frames (word s 2) (copied_small context device (word s 1) (word s 3) p.bytes) p.words.frames in
    answer_goes (record s { frames = frames_with s.frames (word s 2) (device_bytes device (word s 1) (word s 3)) }) (copy_answer device (word s 1) (word s 3))
    (record { slot = p.words.slot; registers = p.words.registers; frames = frames; few = p.words.few; codes = p.words.codes }) (omega (arith, near)) (omega (arith, most))
called_goes device context s helper.Again p =
    let near = p.near in
    let most = again_most (turns_here s) (word s 1) in
    answer_goes (record s { turns = counts_after s.turns s.slot (word s 1) }) (again_answer (turns_here s) (word s 1))
    (record { slot = p.words.slot; registers = p.words.registers; frames = p.words.frames; few = p.words.few; codes = p.words.codes }) (omega (arith, near)) (omega (arith, most))
called_goes device context s helper.Report p =
    let near = p.near in
    let most = report_most s.codes in
    let codes = codes_kept s.codes (word s 1) (record { few = p.words.few; words = p.words.codes }) (word_below s 1 p.words) in
    answer_goes (record s { codes = codes_after s.codes (word s 1) }) (report_answer s.codes)
    (record { slot = p.words.slot; registers = p.words.registers; frames = p.words.frames; few = codes.few; codes = codes.words }) (omega (arith, near)) (omega (arith, most))
called_goes device context s (helper.Query q) p =
    let near = p.near in
    answer_goes s (query_answer device q (word s 1) (word s 2) (word s 3)) p.words (omega (arith, near)) (query_word device q (word s 1) (word s 2) (word s 3) p.few)

helper_goes : (device : List (List ℕ)) (context : List ℕ) (s : State) (o : Option Helper) → Place device context s → GoesWell (option_map_or (call_effect device s) o (Next s))
helper_goes device context s None p = p.words
helper_goes device context s (Some h) p = called_goes device context s h p

-- a function's frame
enter_goes : (device : List (List ℕ)) (context : List ℕ) (s : State) (entry : ℕ) → Place device context s → entry < 2 ^ 64 → length s.frames < 4 → GoesWell (enter_function s entry)
enter_goes device context s entry p near few =
    let here = p.near in
    let reg = λ (r : ℕ). register_below s r p.words in
    let end : stack_end (length s.frames) < 2 ^ 64 = omega (arith, few) in
    let saved : IsSaved (Some (saved_caller s)) = (omega (arith, here), (reg 6, (reg 7, (reg 8, (reg 9, (reg 10, tt)))))) in
    let frame : IsFrame (record { stack = unset_stack; caller = Some (saved_caller s) }) = record { stack = unset_below; saved = saved } in
    record {
      slot = near;
      registers = (tt, (reg 1, (reg 2, (reg 3, (reg 4, (reg 5, (tt, (tt, (tt, (tt, (end, tt)))))))))));
      frames = each_both IsFrame s.frames (record { stack = unset_stack; caller = Some (saved_caller s) } ∷ []) p.words.frames (frame, tt);
      few = p.words.few;
      codes = p.words.codes;
    }

exit_goes : (s : State) (c : Option Caller) → HoldsWords s → IsSaved c → GoesWell (exit_frame s c)
exit_goes s None h saved = (word_below s 0 h, h.few, All-from_recursion (λ (n : ℕ). n < 2 ^ 64) s.codes h.codes)
exit_goes s (Some c) h saved = record {
  slot = saved.0;
  registers = (register_below s 0 h, (tt, (tt, (tt, (tt, (tt, saved.1))))));
  frames = each_taken IsFrame (length s.frames - 1) s.frames h.frames;
  few = h.few;
  codes = h.codes;
}

-- a call that opens a frame has fewer than four
few_frames : (n : ℕ) (rest : List (Check MachineFault)) → first_failing (check fault.FrameLimit (nat_lt n 4) ∷ rest) ≡ None → n < 4
few_frames n rest passed = by (nat_lt n 4) refl passed
  where
    by : (b : Bool) → nat_lt n 4 ≡ b → (if b then first_failing rest else Some fault.FrameLimit) ≡ None → n < 4
    by true e f = grind (arith, nat_tests, e)
    by false e f = absurd (let bad : Some fault.FrameLimit ≡ None = f in cc)

effect_goes : (program : List (Option Instr)) (device : List (List ℕ)) (context : List ℕ) (s : State) (i : Instr) → Place device context s → IsInRange i
    → first_failing (checks program (machine.memory context device s) s i) ≡ None → GoesWell (effect (machine.memory context device s) device s i)
unfolding checks effect IsInRange
effect_goes program device context s (instr.Arithmetic w o dst from) p range passed =
    let near = p.near in
    let next : s.slot + 1 < 2 ^ 64 = omega (arith, near) in
    set_goes s 1 dst (arithmetic w o (word s dst) (second s from)) p.words next
    (computed_word w o (word s dst) (second s from) (word_below s dst p.words) (second_word s from p.words range.1))
effect_goes program device context s (instr.Negate w dst) p range passed =
    let near = p.near in
    let nought : 0 < 2 ^ 64 = omega arith in
    let next : s.slot + 1 < 2 ^ 64 = omega (arith, near) in
    set_goes s 1 dst (arithmetic w op.Sub 0 (word s dst)) p.words next (computed_word w op.Sub 0 (word s dst) nought (word_below s dst p.words))
effect_goes program device context s (instr.SignExtend e dst src) p range passed =
    let near = p.near in
    let next : s.slot + 1 < 2 ^ 64 = omega (arith, near) in
    set_goes s 1 dst (sign_extension e (word s src)) p.words next (extended_word e (word s src) (word_below s src p.words))
effect_goes program device context s (instr.ByteOrder o size dst) p range passed =
    let near = p.near in
    let next : s.slot + 1 < 2 ^ 64 = omega (arith, near) in
    set_goes s 1 dst (in_order o size (word s dst)) p.words next (ordered_word o size (word s dst) (word_below s dst p.words))
effect_goes program device context s (instr.Jump distance) p range passed =
    let near = p.near in
    let small : s.slot < 2 ^ 32 = omega (arith, near) in
    jump_goes s (target_slot s.slot distance) p.words (target_word s.slot distance small (far distance range))
effect_goes program device context s (instr.LongJump distance) p range passed =
    let near = p.near in
    let small : s.slot < 2 ^ 32 = omega (arith, near) in
    jump_goes s (target_slot s.slot distance) p.words (target_word s.slot distance small range)
effect_goes program device context s (instr.Branch w c dst from distance) p range passed =
    let near = p.near in
    let next : s.slot + 1 < 2 ^ 64 = omega (arith, near) in
    let small : s.slot < 2 ^ 32 = omega (arith, near) in
    jump_goes s (branch_slot s w c dst from distance) p.words
    (either_slot (holds w c (word s dst) (second s from)) (target_slot s.slot distance) (s.slot + 1) (target_word s.slot distance small (far distance range.2)) next)
effect_goes program device context s (instr.CallHelper number) p range passed =
    helper_goes device context s (helper_of (cast_unsigned w32 number)) p
effect_goes program device context s (instr.CallLocal distance) p range passed =
    let near = p.near in
    let small : s.slot < 2 ^ 32 = omega (arith, near) in
    enter_goes device context s (target_slot s.slot distance) p (target_word s.slot distance small range)
    (few_frames (length s.frames) (goes_on program (target_slot s.slot distance) ∷ []) passed)
effect_goes program device context s instr.Exit p range passed =
    exit_goes s (caller_of s.frames) p.words (saved_there s.frames p.words.frames)
effect_goes program device context s (instr.Load size dst base distance) p range passed =
    let near = p.near in
    let next : s.slot + 1 < 2 ^ 64 = omega (arith, near) in
    set_goes s 1 dst (number_from (byte_at context device s.frames) (address s base distance) (byte_count size)) p.words next
    (number_word (byte_at context device s.frames) (address s base distance) size (λ a. byte_small context device s.frames a p.bytes p.words.frames))
effect_goes program device context s (instr.LoadSigned size dst base distance) p range passed =
    let near = p.near in
    let next : s.slot + 1 < 2 ^ 64 = omega (arith, near) in
    let read = number_word (byte_at context device s.frames) (address s base distance) (plain_size size) (λ a. byte_small context device s.frames a p.bytes p.words.frames) in
    set_goes s 1 dst (sign_extension (extension_of size) (number_from (byte_at context device s.frames) (address s base distance) (byte_count (plain_size size)))) p.words
    next (extended_word (extension_of size) _ read)
effect_goes program device context s (instr.StoreImmediate size base distance n) p range passed =
    let near = p.near in
    let next : s.slot + 1 < 2 ^ 64 = omega (arith, near) in
    store_goes s (address s base distance) (number_bytes (byte_count size) (cast_unsigned w64 n)) p.words next (small_number (byte_count size) (cast_unsigned w64 n))
effect_goes program device context s (instr.Store size base distance src) p range passed =
    let near = p.near in
    let next : s.slot + 1 < 2 ^ 64 = omega (arith, near) in
    store_goes s (address s base distance) (number_bytes (byte_count size) (word s src)) p.words next (small_number (byte_count size) (word s src))
effect_goes program device context s (instr.LoadImmediate dst x) p range passed =
    let near = p.near in
    let next : s.slot + 2 < 2 ^ 64 = omega (arith, near) in
    set_goes s 2 dst x p.words next range.1

instr_goes : (program : List (Option Instr)) (device : List (List ℕ)) (context : List ℕ) (s : State) (i : Instr) → Place device context s → IsInRange i
    → GoesWell (step_of program context device s i)
unfolding step_of
instr_goes program device context s i p range =
    tested s (first_failing (checks program (machine.memory context device s) s i)) (effect (machine.memory context device s) device s i) p.words
    (λ passed. effect_goes program device context s i p range passed)

step_goes : (program : List (Option Instr)) (device : List (List ℕ)) (context : List ℕ) (s : State) → IsProgram program → HasBytes context device → length device < 2 ^ 32 → HoldsWords s
    → GoesWell (step program context device s)
step_goes program device context s is bytes few h = by (at program s.slot) refl
  where
    by : (o : Option Instr) → at program s.slot ≡ o → GoesWell (option_map_or (step_of program context device s) o (Fault fault.NoInstruction s.slot))
    by None there = h.slot
    by (Some i) there =
        let within = slot_within program s.slot i there in
        let most = is.count.limit in
        instr_goes program device context s i (record { bytes = bytes; few = few; near = omega (arith, within, most); words = h }) (range_at program s.slot i is there)

steps_end_within : (program : List (Option Instr)) (device : List (List ℕ)) (context : List ℕ) (n : ℕ) (s : State) → IsProgram program → HasBytes context device → length device < 2 ^ 32 → HoldsWords s
    → IsWithin (steps_end program context device n s)
unfolding steps_end
steps_end_within program device context zero s is bytes few h = tt
steps_end_within program device context (suc n) s is bytes few h =
    by (step program context device s) (λ t goes. steps_end_within program device context n t is bytes few goes) (step_goes program device context s is bytes few h)
  where
    by : (t : Stepped) → ((t : State) → HoldsWords t → IsWithin (steps_end program context device n t)) → GoesWell t → IsWithin (after (steps_end program context device n) t)
    by (Next t) rest goes = rest t goes
    by (Done answer codes) rest goes = goes
    by (Fault cause slot) rest goes = goes

start_words : HoldsWords start
unfolding start
start_words = record {
  slot = omega arith;
  registers = (tt, (omega arith, (tt, (tt, (tt, (tt, (tt, (tt, (tt, (tt, (omega arith, tt)))))))))));
  frames = (record { stack = unset_below; saved = tt }, tt);
  few = omega arith;
  codes = tt;
}

small_both : (xs ys : List ℕ) → AreBytes xs → AreBytes ys → AreBytes (xs ++ ys)
small_both [] ys left right i = right i
small_both (x ∷ xs) ys left right zero = left 0
small_both (x ∷ xs) ys left right (suc i) = small_both xs ys (λ j. left (suc j)) right i

context_small : (c : Context) → AreBytes (context_bytes c)
unfolding context_bytes
context_small c =
    let a : List ℕ = number_bytes 8 c.sectors in
    let b : List ℕ = number_bytes 8 c.epoch in
    let d : List ℕ = number_bytes 8 c.marks in
    small_both ((a ++ b) ++ d) (number_bytes 8 0) (small_both (a ++ b) d (small_both a b (small_number 8 c.sectors) (small_number 8 c.epoch)) (small_number 8 c.marks)) (small_number 8 0)

image_bytes : (sectors : ℕ) (device : List (List ℕ)) (context : Context) → IsImage sectors device context → HasBytes (context_bytes context) device
image_bytes sectors device context image = record { told = context_small context; sectors = λ n sector there. (image.whole n sector there).bytes }

pub ends_are_words : (program : List (Option Instr)) (sectors : ℕ) (device : List (List ℕ)) (context : Context) (limit : ℕ) → IsProgram program → sectors < 2 ^ 32 → IsImage sectors device context
    → IsWithin (outcome program device context limit)
unfolding outcome
ends_are_words program sectors device context limit is few image =
    let count = image.count in
    steps_end_within program device (context_bytes context) limit start is (image_bytes sectors device context image) (omega (arith, count, few)) start_words

-- with guards

filled_below : (cells : List (Option ℕ)) → AreBelow 256 cells → AreBelow 256 (map (λ c. Some (unwrap_or c 0)) cells)
filled_below [] all = tt
filled_below (None ∷ cells) all = (omega arith, filled_below cells all.1)
filled_below (Some c ∷ cells) all = (all.0, filled_below cells all.1)

filled_frames : (frames : List Frame) → AllByRecursion IsFrame frames → AllByRecursion IsFrame (map filled_frame frames)
filled_frames [] all = tt
filled_frames (f ∷ frames) all = (record { stack = filled_below f.stack all.0.stack; saved = all.0.saved }, filled_frames frames all.1)

filled_words : (s : State) → HoldsWords s → HoldsWords (filled s)
unfolding filled
filled_words s h = record { slot = h.slot; registers = h.registers; frames = filled_frames s.frames h.frames; few = h.few; codes = h.codes }

-- what a step with guards comes to: it may also stray
abbrev GoesOrStrays : Option Stepped → Type 0
GoesOrStrays None = Unit {0}
GoesOrStrays (Some t) = GoesWell t

guarded_goes : (own : Bool) (t : Stepped) → GoesWell t → GoesOrStrays (guarded own t)
guarded_goes true (Next t) goes = filled_words t goes
guarded_goes false (Next t) goes = tt
guarded_goes own (Done answer codes) goes = goes
guarded_goes own (Fault cause slot) goes = by (is_place cause)
  where
    by : (b : Bool) → GoesOrStrays (if b then None else Some (Fault cause slot))
    by true = tt
    by false = goes

stack_step_goes : (program : List (Option Instr)) (context : List ℕ) (device : List (List ℕ)) (s : State) → IsProgram program → HasBytes context device → length device < 2 ^ 32 → HoldsWords s
    → GoesOrStrays (stack_step program context device s)
unfolding stack_step
stack_step_goes program context device s is bytes few h =
    guarded_goes (writes_own_here program s) (step program context device s) (step_goes program device context s is bytes few h)

-- the memory keeps bytes

taken_small : (n : ℕ) (xs : List ℕ) → AreBytes xs → AreBytes (take n xs)
taken_small zero xs small i = omega arith
taken_small (suc n) [] small i = omega arith
taken_small (suc n) (x ∷ xs) small zero = small 0
taken_small (suc n) (x ∷ xs) small (suc i) = taken_small n xs (λ j. small (suc j)) i

dropped_small : (n : ℕ) (xs : List ℕ) → AreBytes xs → AreBytes (drop n xs)
dropped_small zero xs small i = small i
dropped_small (suc n) [] small i = omega arith
dropped_small (suc n) (x ∷ xs) small i = dropped_small n xs (λ j. small (suc j)) i

over_small : (m bytes : List ℕ) (p : ℕ) → AreBytes m → AreBytes bytes → AreBytes (overwritten p bytes m)
over_small m bytes p old new =
    small_both (take p m) (bytes ++ drop (p + length bytes) m) (taken_small p m old)
    (small_both bytes (drop (p + length bytes) m) new (dropped_small (p + length bytes) m old))

zeros_small : (n : ℕ) → AreBytes (replicate {A = ℕ} n 0)
zeros_small zero i = omega arith
zeros_small (suc n) zero = omega arith
zeros_small (suc n) (suc i) = zeros_small n i

memory_begins : AreBytes zero_memory
unfolding zero_memory
memory_begins = zeros_small 65536

loaded_word : (size : Size) (p : ℕ) (m : List ℕ) → AreBytes m → number_at (byte_count size) p m < 2 ^ 64
loaded_word size p m small = below_size size (number_at (byte_count size) p m) (number_below (byte_count size) p m small)

-- what is made: a step, and the memory after it
abbrev MadeWell : Option Made → Type 0
MadeWell None = Unit {0}
MadeWell (Some made) = GoesWell made.stepped × AreBytes made.memory

memory_stays : (m : List ℕ) (o : Option Stepped) → AreBytes m → GoesOrStrays o → MadeWell (with_memory m o)
memory_stays m None small goes = tt
memory_stays m (Some t) small goes = (goes, small)

if_made : (b : Bool) (made : Made) → GoesWell made.stepped × AreBytes made.memory → MadeWell (if b then Some made else None)
if_made true made goes = goes
if_made false made goes = tt

next_goes : (program : List (Option Instr)) (s : State) (x : Stepped) → HoldsWords s → GoesWell x → GoesWell (goes_next program s x)
next_goes program s x h goes = tested s (first_failing (goes_on program (s.slot + 1) ∷ [])) x h (λ passed. goes)

load_goes : (program : List (Option Instr)) (device : List (List ℕ)) (m : List ℕ) (s : State) (dst : ℕ) (value : ℕ → ℕ) (a n : ℕ) → HoldsWords s → s.slot + 1 < 2 ^ 64 → AreBytes m
    → value (number_at n (a - memory_start) m) < 2 ^ 64 → MadeWell (memory_load program device m s dst value a n)
load_goes program device m s dst value a n h near small below =
    let x : ℕ = value (number_at n (a - memory_start) m) in
    if_made (is_in_memory device a n) (record { stepped = goes_next program s (machine.set_and_go 1 s dst x); memory = m })
    (next_goes program s (machine.set_and_go 1 s dst x) h (set_goes s 1 dst x h near below), small)

write_goes : (program : List (Option Instr)) (device : List (List ℕ)) (m : List ℕ) (s : State) (x : Stepped) (a : ℕ) (bytes : List ℕ) (n : ℕ) → HoldsWords s → GoesWell x → AreBytes m → AreBytes bytes
    → MadeWell (memory_write program device m s x a bytes n)
write_goes program device m s x a bytes n h goes old new =
    if_made (is_in_memory device a n) (record { stepped = goes_next program s x; memory = overwritten (a - memory_start) bytes m })
    (next_goes program s x h goes, over_small m bytes (a - memory_start) old new)

copied_goes : (program : List (Option Instr)) (device : List (List ℕ)) (context m : List ℕ) (s : State) (b : Bool) → Place device context s → AreBytes m
    → MadeWell (if b then memory_write program device m s (answer_step s (copy_answer device (word s 1) (word s 3))) (word s 2) (device_bytes device (word s 1) (word s 3)) (word s 3) else None)
copied_goes program device context m s true p small =
    let near = p.near in
    let most = copy_most device (word s 1) (word s 3) in
    write_goes program device m s (answer_step s (copy_answer device (word s 1) (word s 3))) (word s 2) (device_bytes device (word s 1) (word s 3)) (word s 3) p.words
    (answer_goes s (copy_answer device (word s 1) (word s 3)) p.words (omega (arith, near)) (omega (arith, most))) small (copied_small context device (word s 1) (word s 3) p.bytes)
copied_goes program device context m s false p small = tt

asked_goes : (program : List (Option Instr)) (device : List (List ℕ)) (context m : List ℕ) (s : State) (o : Option Helper) → Place device context s → AreBytes m
    → MadeWell (option_map_or (memory_call program device m s) o None)
asked_goes program device context m s None p small = tt
asked_goes program device context m s (Some helper.Copy) p small = copied_goes program device context m s (is_length (word s 3)) p small
asked_goes program device context m s (Some helper.Again) p small = tt
asked_goes program device context m s (Some helper.Report) p small = tt
asked_goes program device context m s (Some (helper.Query q)) p small = tt

memory_step_goes : (program : List (Option Instr)) (device : List (List ℕ)) (context m : List ℕ) (s : State) (i : Instr) → Place device context s → AreBytes m → MadeWell (memory_step program device m s i)
unfolding memory_step
memory_step_goes program device context m s (instr.Load size dst base distance) p small =
    let near = p.near in
    load_goes program device m s dst (λ x. x) (address s base distance) (byte_count size) p.words (omega (arith, near)) small (loaded_word size (address s base distance - memory_start) m small)
memory_step_goes program device context m s (instr.LoadSigned size dst base distance) p small =
    let near = p.near in
    load_goes program device m s dst (sign_extension (extension_of size)) (address s base distance) (byte_count (plain_size size)) p.words (omega (arith, near)) small
    (extended_word (extension_of size) _ (loaded_word (plain_size size) (address s base distance - memory_start) m small))
memory_step_goes program device context m s (instr.StoreImmediate size base distance n) p small =
    let near = p.near in
    write_goes program device m s (machine.go_to (s.slot + 1) s) (address s base distance) (number_bytes (byte_count size) (cast_unsigned w64 n)) (byte_count size) p.words
    (jump_goes s (s.slot + 1) p.words (omega (arith, near))) small (small_number (byte_count size) (cast_unsigned w64 n))
memory_step_goes program device context m s (instr.Store size base distance src) p small =
    let near = p.near in
    write_goes program device m s (machine.go_to (s.slot + 1) s) (address s base distance) (number_bytes (byte_count size) (word s src)) (byte_count size) p.words
    (jump_goes s (s.slot + 1) p.words (omega (arith, near))) small (small_number (byte_count size) (word s src))
memory_step_goes program device context m s (instr.CallHelper number) p small = asked_goes program device context m s (helper_of (cast_unsigned w32 number)) p small
memory_step_goes program device context m s _ p small = tt

-- checksums

sum_word : (p : Polynomial) (seed : ℕ) (bytes : List ℕ) → sum_answer p seed bytes < 2 ^ 64
unfolding sum_answer
sum_word p seed bytes = let small : sum_answer p seed bytes < 2 ^ 32 = mod-lt _ (omega arith) in omega (arith, small)

answers_goes : (program : List (Option Instr)) (s : State) (registers : List ℕ) (answer : ℕ) → HoldsWords s → s.slot + 1 < 2 ^ 64 → answer < 2 ^ 64 → GoesWell (answers_step program s registers answer)
answers_goes program s registers answer h near small =
    tested s (first_failing (machine.reads s registers ∷ goes_on program (s.slot + 1) ∷ [])) (answer_step s answer) h (λ passed. answer_goes s answer h near small)

sum_goes : (program : List (Option Instr)) (device : List (List ℕ)) (context m : List ℕ) (s : State) (c : Checksum) → Place device context s → GoesOrStrays (sum_step program device m s c)
unfolding sum_step
sum_goes program device context m s (of.OfDevice p) place =
    let near = place.near in
    answers_goes program s (query_arguments (query_for p)) (query_answer device (query_for p) (word s 1) (word s 2) (word s 3)) place.words (omega (arith, near))
    (query_word device (query_for p) (word s 1) (word s 2) (word s 3) place.few)
sum_goes program device context m s (of.OfMemory p) place = by (first_failing (machine.reads s (1 ∷ 2 ∷ 3 ∷ []) ∷ [])) (own_bytes device m s (word s 2) (taken (word s 3)))
  where
    by : (o : Option MachineFault) (found : Option (List ℕ))
        → GoesOrStrays (option_map_or (λ cause. Some (Fault cause s.slot)) o (option_map (λ bytes. answers_step program s (1 ∷ 2 ∷ 3 ∷ []) (sum_answer p (word s 1) bytes)) found))
    by (Some cause) found = place.words.slot
    by None None = tt
    by None (Some bytes) =
        let near = place.near in
        answers_goes program s (1 ∷ 2 ∷ 3 ∷ []) (sum_answer p (word s 1) bytes) place.words (omega (arith, near)) (sum_word p (word s 1) bytes)

either_made : (x y : Option Made) → MadeWell x → MadeWell y → MadeWell (option_or x y)
either_made None y left right = right
either_made (Some made) y left right = left

made_goes : (program : List (Option Instr)) (context : List ℕ) (device : List (List ℕ)) (m : List ℕ) (s : State) (i : Instr) → IsProgram program → Place device context s → AreBytes m
    → MadeWell (made_of program context device m s i)
unfolding made_of
made_goes program context device m s i is p small = by (checksum_asked i)
  where
    by : (o : Option Checksum)
        → MadeWell (option_map_or (λ c. with_memory m (sum_step program device m s c)) o (option_or (with_memory m (stack_step program context device s)) (memory_step program device m s i)))
    by (Some c) = memory_stays m (sum_step program device m s c) small (sum_goes program device context m s c p)
    by None =
        either_made (with_memory m (stack_step program context device s)) (memory_step program device m s i)
        (memory_stays m (stack_step program context device s) small (stack_step_goes program context device s is p.bytes p.few p.words))
        (memory_step_goes program device context m s i p small)

guarded_step_goes : (program : List (Option Instr)) (context : List ℕ) (device : List (List ℕ)) (m : List ℕ) (s : State) → IsProgram program → HasBytes context device → length device < 2 ^ 32
    → HoldsWords s → AreBytes m → MadeWell (guarded_step program context device m s)
guarded_step_goes program context device m s is bytes few h small = by (at program s.slot) refl
  where
    by : (o : Option Instr) → at program s.slot ≡ o → MadeWell (option_map_or (made_of program context device m s) o (with_memory m (Some (Fault fault.NoInstruction s.slot))))
    by None there = (h.slot, small)
    by (Some i) there =
        let within = slot_within program s.slot i there in
        let most = is.count.limit in
        made_goes program context device m s i is (record { bytes = bytes; few = few; near = omega (arith, within, most); words = h }) small

ended : (end : State → Ending) (t : Stepped) → ((u : State) → HoldsWords u → IsWithin (end u)) → GoesWell t → IsWithin (after end t)
ended end (Next t) rest goes = rest t goes
ended end (Done answer codes) rest goes = goes
ended end (Fault cause slot) rest goes = goes

guarded_end_within : (program : List (Option Instr)) (device : List (List ℕ)) (context : List ℕ) (n : ℕ) (m : List ℕ) (s : State) → IsProgram program → HasBytes context device → length device < 2 ^ 32
    → HoldsWords s → AreBytes m → IsWithin (guarded_end program context device n m s)
unfolding guarded_end
guarded_end_within program device context zero m s is bytes few h small = tt
guarded_end_within program device context (suc n) m s is bytes few h small =
    by (guarded_step program context device m s) (λ m t goes kept. guarded_end_within program device context n m t is bytes few goes kept)
    (guarded_step_goes program context device m s is bytes few h small)
  where
    by : (o : Option Made) → ((m : List ℕ) (t : State) → HoldsWords t → AreBytes m → IsWithin (guarded_end program context device n m t)) → MadeWell o
        → IsWithin (guarded_after (guarded_end program context device n) s.slot o)
    by None rest goes = h.slot
    by (Some made) rest goes = ended (guarded_end program context device n made.memory) made.stepped (λ t words. rest made.memory t words goes.1) goes.0

pub guarded_ends_are_words : (program : List (Option Instr)) (sectors : ℕ) (device : List (List ℕ)) (context : Context) (limit : ℕ) → IsProgram program → sectors < 2 ^ 32
    → IsImage sectors device context → IsWithin (guarded_outcome program device context limit)
unfolding guarded_outcome
guarded_ends_are_words program sectors device context limit is few image =
    let count = image.count in
    guarded_end_within program device (context_bytes context) limit zero_memory (filled start) is (image_bytes sectors device context image) (omega (arith, count, few)) (filled_words start start_words)
    memory_begins
