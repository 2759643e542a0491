-- Runs with guards: they have one end, and look at no other sector than those of their footprint.
use Rattle.std.proofs.Common.{ℕ, zero, suc, ◌≡◌, ◌+◌, ◌-◌, nat_le, nat_lt, ◌&&◌, Bool, true, false, if◌then◌else◌, List, [], ◌∷◌, ◌++◌, length, filter, Option, None, Some, refl, sym, ap, ◌∙◌, subst, arith}
use Rattle.std.specs.Option.{option_map, option_map_or, option_or}
use Rattle.std.specs.Int.{cast_unsigned, w32}
use Rattle.base.specs.Check.{first_failing}
use Rattle.base.specs.declared.causes.MachineFault.TheVariants as fault
use Rattle.bpf_isa.specs.declared.instr.Instr.{Instr}
use Rattle.bpf_isa.specs.declared.instr.Instr.TheVariants as instr
use Rattle.bpf_isa.specs.Slots.{at}
use Rattle.helpers.specs.declared.helper.Helper.{Helper}
use Rattle.helpers.specs.declared.helper.Helper.TheVariants as helper
use Rattle.helpers.specs.declared.sums.Checksum.{Checksum}
use Rattle.helpers.specs.declared.sums.Checksum.TheVariants as of
use Rattle.helpers.specs.Helper.{helper_of}
use Rattle.helpers.specs.Answers.{device_bytes, copy_answer}
use Rattle.helpers.specs.Footprint.{sectors_of, helper_sectors}
use Rattle.helpers.specs.declared.helper.Query.{Query}
use Rattle.helpers.specs.Sums.{taken, sum_answer}
use Rattle.helpers.specs.Queries.{query_for, query_arguments, query_sectors}
use Rattle.helpers.proofs.Queries.{query_same}
use Rattle.machine.specs.Memory.{byte_count, plain_size, context_bytes}
use Rattle.machine.specs.OwnMemory.{memory_start, memory_size, most_beside, zero_memory, is_in_memory, overwritten}
use Rattle.machine.specs.State.{State, start, word}
use Rattle.machine.specs.Step.{Stepped, Next, Done, Fault, address, step, is_length, reads, answer_step}
use Rattle.machine.specs.Outcome.{Ending, after}
use Rattle.machine.specs.Footprint.{read_here, read_after, reads_of, call_reads, AreAlike, HaveSame}
use Rattle.machine.specs.Guards.{filled, writes_own_here, guarded, stack_step, Made, goes_next, memory_call, memory_step, bytes_of_stack, answers_step, sum_step, checksum_asked, with_memory, made_of, guarded_step, guarded_after, guarded_end, guarded_outcome, sum_reads, guarded_reads_of, guarded_read_here, guarded_reads_after, guarded_reads, guarded_footprint, IsEnd, OneGuardedEnd, GuardedFootprintTells}
use Rattle.machine.proofs.Footprints.{two, found_alike, all_same, copied_same, copy_answer_same, reads_of_alike, same_split, found_same}

-- what follows a step is the same, where what follows its state is
after_longer : (first second : State → Ending) (x : Stepped) → ((s : State) → IsEnd (first s) → second s ≡ first s) → IsEnd (after first x) → after second x ≡ after first x
after_longer first second (Next s) longer ends = longer s ends
after_longer first second (Done b others) longer ends = refl
after_longer first second (Fault cause slot) longer ends = refl

guarded_after_longer : (first second : List ℕ → State → Ending) (slot : ℕ) (x : Option Made) → ((m : List ℕ) (s : State) → IsEnd (first m s) → second m s ≡ first m s)
    → IsEnd (guarded_after first slot x) → guarded_after second slot x ≡ guarded_after first slot x
guarded_after_longer first second slot None longer ends = refl
guarded_after_longer first second slot (Some made) longer ends = after_longer (first made.memory) (second made.memory) made.stepped (longer made.memory) ends

pub longer : (program : List (Option Instr)) (bytes : List ℕ) (device : List (List ℕ)) (n k : ℕ) (m : List ℕ) (s : State)
    → IsEnd (guarded_end program bytes device n m s) → guarded_end program bytes device (n + k) m s ≡ guarded_end program bytes device n m s
unfolding guarded_end
longer program bytes device zero k m s ends = absurd ends
longer program bytes device (suc n) k m s ends =
    let e : suc n + k ≡ suc (n + k) = omega arith in
    rw e
    (guarded_after_longer (guarded_end program bytes device n) (guarded_end program bytes device (n + k)) s.slot (guarded_step program bytes device m s)
    (λ next t. longer program bytes device n k next t) ends)

pub one_end : OneGuardedEnd
unfolding guarded_outcome
one_end program device context n k ends others =
    let bytes : List ℕ = context_bytes context in
    let sum : n + k ≡ k + n = omega arith in
    let left : guarded_end program bytes device (n + k) zero_memory (filled start) ≡ guarded_end program bytes device n zero_memory (filled start) =
    longer program bytes device n k zero_memory (filled start) ends in
    let right : guarded_end program bytes device (k + n) zero_memory (filled start) ≡ guarded_end program bytes device k zero_memory (filled start) =
    longer program bytes device k n zero_memory (filled start) others in
    sym left ∙ (rw sum right)

-- runs on devices that have the sectors in common are the same, step by step

-- what lies in the memory hangs on how many sectors there are
by_count : {X : Type 0} (a b : List (List ℕ)) (place n : ℕ) (x y : X) → length a ≡ length b
    → (if is_in_memory b place n then x else y) ≡ (if is_in_memory a place n then x else y)
by_count a b place n x y e = ap (λ (count : ℕ). if nat_le count most_beside && (nat_le memory_start place && nat_le (place + n) (memory_start + memory_size)) then x else y) (sym e)

memory_call_same : (program : List (Option Instr)) (a b : List (List ℕ)) (m : List ℕ) (s : State) (h : Helper) → length a ≡ length b → HaveSame a b (call_reads a s h)
    → memory_call program b m s h ≡ memory_call program a m s h
unfolding helper_sectors
memory_call_same program a b m s helper.Copy e same = by (is_length (word s 3)) refl
  where
    made : List ℕ → ℕ → Option Made
    made bytes answer = Some (record { stepped = goes_next program s (answer_step s answer); memory = overwritten (word s 2 - memory_start) bytes m })

    by : (fits : Bool) → is_length (word s 3) ≡ fits
        → (if fits then (if is_in_memory b (word s 2) (word s 3) then made (device_bytes b (word s 1) (word s 3)) (copy_answer b (word s 1) (word s 3)) else None) else None)
        ≡ (if fits then (if is_in_memory a (word s 2) (word s 3) then made (device_bytes a (word s 1) (word s 3)) (copy_answer a (word s 1) (word s 3)) else None) else None)
    by true f =
        by_count a b (word s 2) (word s 3) (made (device_bytes b (word s 1) (word s 3)) (copy_answer b (word s 1) (word s 3))) None e
        ∙ ap (λ (x : Option Made). if is_in_memory a (word s 2) (word s 3) then x else None)
        (two made (sym (copied_same a b (word s 1) (word s 3) f (all_same a b (sectors_of (word s 1) (word s 3)) e same))) (sym (copy_answer_same a b (word s 1) (word s 3) e)))
    by false f = refl
memory_call_same program a b m s helper.Again e same = refl
memory_call_same program a b m s helper.Report e same = refl
memory_call_same program a b m s (helper.Query q) e same = refl

any_memory_call_same : (program : List (Option Instr)) (a b : List (List ℕ)) (m : List ℕ) (s : State) (found : Option Helper) → length a ≡ length b
    → HaveSame a b (option_map_or (call_reads a s) found []) → option_map_or (memory_call program b m s) found None ≡ option_map_or (memory_call program a m s) found None
any_memory_call_same program a b m s None e same = refl
any_memory_call_same program a b m s (Some h) e same = memory_call_same program a b m s h e same

memory_step_same : (program : List (Option Instr)) (a b : List (List ℕ)) (m : List ℕ) (s : State) (i : Instr) → length a ≡ length b → HaveSame a b (reads_of a s i)
    → memory_step program b m s i ≡ memory_step program a m s i
unfolding memory_step reads_of
memory_step_same program a b m s (instr.Load size dst base distance) e same = by_count a b (address s base distance) (byte_count size) _ None e
memory_step_same program a b m s (instr.LoadSigned size dst base distance) e same = by_count a b (address s base distance) (byte_count (plain_size size)) _ None e
memory_step_same program a b m s (instr.StoreImmediate size base distance n) e same = by_count a b (address s base distance) (byte_count size) _ None e
memory_step_same program a b m s (instr.Store size base distance src) e same = by_count a b (address s base distance) (byte_count size) _ None e
memory_step_same program a b m s (instr.CallHelper number) e same = any_memory_call_same program a b m s (helper_of (cast_unsigned w32 number)) e same
memory_step_same program a b m s (instr.Arithmetic w o dst from) e same = refl
memory_step_same program a b m s (instr.Negate w dst) e same = refl
memory_step_same program a b m s (instr.SignExtend x dst src) e same = refl
memory_step_same program a b m s (instr.ByteOrder o size dst) e same = refl
memory_step_same program a b m s (instr.Jump distance) e same = refl
memory_step_same program a b m s (instr.LongJump distance) e same = refl
memory_step_same program a b m s (instr.Branch w c dst from distance) e same = refl
memory_step_same program a b m s (instr.CallLocal distance) e same = refl
memory_step_same program a b m s instr.Exit e same = refl
memory_step_same program a b m s (instr.LoadImmediate dst x) e same = refl

sum_step_same : (program : List (Option Instr)) (a b : List (List ℕ)) (m : List ℕ) (s : State) (c : Checksum) → length a ≡ length b → HaveSame a b (sum_reads a s c)
    → sum_step program b m s c ≡ sum_step program a m s c
unfolding sum_step
sum_step_same program a b m s (of.OfDevice p) e same =
    let q : Query = query_for p in
    ap (λ (answer : ℕ). Some (answers_step program s (query_arguments q) answer))
    (sym (query_same a b q (word s 1) (word s 2) (word s 3) e (all_same a b (query_sectors q (word s 1) (word s 2) (word s 3)) e same)))
sum_step_same program a b m s (of.OfMemory p) e same =
    ap (λ (found : Option (List ℕ)). option_map_or (λ cause. Some (Fault cause s.slot)) (first_failing (reads s (1 ∷ 2 ∷ 3 ∷ []) ∷ [])) (option_map (λ bytes. answers_step program s (1 ∷ 2 ∷ 3 ∷ []) (sum_answer p (word s 1) bytes)) found))
    (by_count a b (word s 2) (taken (word s 3)) _ (bytes_of_stack s.frames (word s 2) (taken (word s 3))) e)

pub record RunsSame (program : List (Option Instr)) (context : List ℕ) (a b : List (List ℕ)) (n : ℕ) (m : List ℕ) (s : State) : Type 0 where
  pub ends : guarded_end program context b n m s ≡ guarded_end program context a n m s
  pub reads : guarded_reads program context b n m s ≡ guarded_reads program context a n m s

abbrev RestSame : List (Option Instr) → List ℕ → List (List ℕ) → List (List ℕ) → ℕ → Type 0
RestSame program context a b n = (m : List ℕ) (t : State) → HaveSame a b (guarded_reads program context a n m t) → RunsSame program context a b n m t

stepped_same : (program : List (Option Instr)) (context : List ℕ) (a b : List (List ℕ)) (n : ℕ) (m : List ℕ) (x : Stepped) → RestSame program context a b n
    → HaveSame a b (read_after (guarded_reads program context a n m) x)
    → (after (guarded_end program context b n m) x ≡ after (guarded_end program context a n m) x)
    × (read_after (guarded_reads program context b n m) x ≡ read_after (guarded_reads program context a n m) x)
stepped_same program context a b n m (Next t) rest same =
    let r = rest m t same in
    (r.ends, r.reads)
stepped_same program context a b n m (Done answer codes) rest same = (refl, refl)
stepped_same program context a b n m (Fault cause at) rest same = (refl, refl)

goes_on_same : (program : List (Option Instr)) (context : List ℕ) (a b : List (List ℕ)) (n slot : ℕ) (x : Option Made) → RestSame program context a b n
    → HaveSame a b (guarded_reads_after (guarded_reads program context a n) x)
    → (guarded_after (guarded_end program context b n) slot x ≡ guarded_after (guarded_end program context a n) slot x)
    × (guarded_reads_after (guarded_reads program context b n) x ≡ guarded_reads_after (guarded_reads program context a n) x)
goes_on_same program context a b n slot None rest same = (refl, refl)
goes_on_same program context a b n slot (Some made) rest same = stepped_same program context a b n made.memory made.stepped rest same

stack_step_same : (program : List (Option Instr)) (context : List ℕ) (a b : List (List ℕ)) (s : State) → AreAlike a b → HaveSame a b (read_here program a s)
    → stack_step program context b s ≡ stack_step program context a s
unfolding stack_step
stack_step_same program context a b s alike same = ap (guarded (writes_own_here program s)) (found_same program context a b s (at program s.slot) alike same)

made_same : (program : List (Option Instr)) (context : List ℕ) (a b : List (List ℕ)) (m : List ℕ) (s : State) (i : Instr) (asked : Option Checksum) → AreAlike a b → at program s.slot ≡ Some i
    → HaveSame a b (option_map_or (sum_reads a s) asked (reads_of a s i))
    → option_map_or (λ c. with_memory m (sum_step program b m s c)) asked (option_or (with_memory m (stack_step program context b s)) (memory_step program b m s i))
    ≡ option_map_or (λ c. with_memory m (sum_step program a m s c)) asked (option_or (with_memory m (stack_step program context a s)) (memory_step program a m s i))
made_same program context a b m s i None alike is same =
    let here : HaveSame a b (read_here program a s) = subst (λ (found : Option Instr). HaveSame a b (option_map_or (reads_of a s) found [])) (sym is) same in
    two (λ (x : Option Stepped) (y : Option Made). option_or (with_memory m x) y) (stack_step_same program context a b s alike here) (memory_step_same program a b m s i alike.count same)
made_same program context a b m s i (Some c) alike is same = ap (with_memory m) (sum_step_same program a b m s c alike.count same)

found_made_same : (program : List (Option Instr)) (context : List ℕ) (a b : List (List ℕ)) (m : List ℕ) (s : State) (found : Option Instr) → AreAlike a b → at program s.slot ≡ found
    → HaveSame a b (option_map_or (guarded_reads_of a s) found [])
    → option_map_or (made_of program context b m s) found (with_memory m (Some (Fault fault.NoInstruction s.slot)))
    ≡ option_map_or (made_of program context a m s) found (with_memory m (Some (Fault fault.NoInstruction s.slot)))
unfolding made_of
found_made_same program context a b m s None alike is same = refl
found_made_same program context a b m s (Some i) alike is same = made_same program context a b m s i (checksum_asked i) alike is same

step_same : (program : List (Option Instr)) (context : List ℕ) (a b : List (List ℕ)) (m : List ℕ) (s : State) → AreAlike a b → HaveSame a b (guarded_read_here program a s)
    → guarded_step program context b m s ≡ guarded_step program context a m s
unfolding guarded_read_here
step_same program context a b m s alike same = found_made_same program context a b m s (at program s.slot) alike refl same

sum_reads_alike : (a b : List (List ℕ)) (s : State) → length a ≡ length b → (c : Checksum) → sum_reads b s c ≡ sum_reads a s c
sum_reads_alike a b s e (of.OfDevice p) = ap (λ (count : ℕ). filter (λ n. nat_lt n count) (query_sectors (query_for p) (word s 1) (word s 2) (word s 3))) (sym e)
sum_reads_alike a b s e (of.OfMemory p) = refl

asked_alike : (a b : List (List ℕ)) (s : State) → length a ≡ length b → (i : Instr) (asked : Option Checksum)
    → option_map_or (sum_reads b s) asked (reads_of b s i) ≡ option_map_or (sum_reads a s) asked (reads_of a s i)
asked_alike a b s e i None = reads_of_alike a b s e i
asked_alike a b s e i (Some c) = sum_reads_alike a b s e c

read_here_alike : (program : List (Option Instr)) (a b : List (List ℕ)) (s : State) → length a ≡ length b → guarded_read_here program b s ≡ guarded_read_here program a s
unfolding guarded_read_here
read_here_alike program a b s e = found_alike (guarded_reads_of b s) (guarded_reads_of a s) [] (at program s.slot) (λ i. asked_alike a b s e i (checksum_asked i))

run_same : (program : List (Option Instr)) (context : List ℕ) (a b : List (List ℕ)) → AreAlike a b → (n : ℕ) (m : List ℕ) (s : State)
    → HaveSame a b (guarded_reads program context a n m s) → RunsSame program context a b n m s
unfolding guarded_end guarded_reads
run_same program context a b alike zero m s same = record { ends = refl; reads = refl }
run_same program context a b alike (suc n) m s same =
    let x : Option Made = guarded_step program context a m s in
    let own : List ℕ = guarded_read_here program a s in
    let parts = same_split a b own (guarded_reads_after (guarded_reads program context a n) x) same in
    let step_is : guarded_step program context b m s ≡ x = step_same program context a b m s alike parts.0 in
    let own_is : guarded_read_here program b s ≡ own = read_here_alike program a b s alike.count in
    let r = goes_on_same program context a b n s.slot x (run_same program context a b alike n) parts.1 in
    record {
      ends = ap (guarded_after (guarded_end program context b n) s.slot) step_is ∙ r.0;
      reads = two (λ (names rest : List ℕ). names ++ rest) own_is (ap (guarded_reads_after (guarded_reads program context b n)) step_is ∙ r.1);
    }

pub footprint_tells : GuardedFootprintTells
unfolding guarded_outcome guarded_footprint
footprint_tells program device other context limit alike same =
    let r = run_same program (context_bytes context) device other alike limit zero_memory (filled start) same in
    record { ends = r.ends; reads = r.reads }
