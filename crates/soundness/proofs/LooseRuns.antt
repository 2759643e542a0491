-- Runs with guards of accepted programs: they are safe, and end within the budget.
use Rattle.std.proofs.Common.{◌≡◌, ◌≤◌, ℕ, zero, suc, ◌+◌, ◌*◌, ◌==◌, ℤ, Bool, true, false, if◌then◌else◌, List, [], ◌∷◌, map, Option, None, Some, refl, sym, ◌∙◌, ap, inl, inr, subst, arith}
use Rattle.std.specs.Option.{option_map, option_map_or, option_or}
use Rattle.std.specs.Int.{cast_unsigned, w32}
use Rattle.std.proofs.lemmas.Bool.Decides.{eqb_tells}
use Rattle.base.specs.Check.{first_failing}
use Rattle.base.specs.declared.causes.MachineFault.{MachineFault}
use Rattle.base.specs.declared.causes.MachineFault.TheVariants as fault
use Rattle.bpf_isa.specs.declared.instr.Instr.{Instr}
use Rattle.bpf_isa.specs.declared.instr.Instr.TheVariants as instr
use Rattle.bpf_isa.specs.Slots.{at}
use Rattle.bpf_isa.specs.Program.{IsProgram}
use Rattle.bpf_shape.specs.Again.{helper_number, limit_of, zero_test}
use Rattle.bpf_shape.specs.Edges.{edges_of}
use Rattle.bpf_shape.specs.Rules.{IsShaped}
use Rattle.bpf_shape.specs.Laws.{AgainHasForm}
use Rattle.helpers.specs.declared.device.Context.{Context}
use Rattle.helpers.specs.declared.helper.Helper.{Helper}
use Rattle.helpers.specs.declared.helper.Helper.TheVariants as helper
use Rattle.helpers.specs.declared.sums.Checksum.{Checksum}
use Rattle.helpers.specs.declared.sums.Checksum.TheVariants as of
use Rattle.helpers.specs.Answers.{device_bytes, copy_answer}
use Rattle.helpers.specs.Helper.{helper_of}
use Rattle.helpers.specs.Queries.{query_for, query_arguments, query_answer}
use Rattle.helpers.specs.Sums.{checksum_of, taken, sum_answer}
use Rattle.machine.specs.State.{Caller, Frame, State, start, word}
use Rattle.machine.specs.Memory.{context_bytes, byte_count, plain_size}
use Rattle.machine.specs.OwnMemory.{zero_memory, is_in_memory}
use Rattle.machine.specs.Outcome.{after}
use Rattle.machine.specs.Step.{Stepped, Next, Done, Fault, address, reads, goes_on, is_length, answer_step, step}
use Rattle.machine.specs.Guards.{filled_frame, filled, writes_own_here, is_place, guarded, stack_step, Made, goes_next, memory_write, memory_call, memory_step, own_bytes, answers_step, sum_step, checksum_asked, with_memory, made_of, guarded_step, guarded_after, guarded_end, guarded_outcome}
use Rattle.ranges.specs.States.{Abstract}
use Rattle.verifier.specs.Good.{IsGoodWith}
use Rattle.soundness.specs.Machines.{IsSetting}
use Rattle.soundness.specs.Laws.{IsKnown, IsNoFault}
use Rattle.soundness.specs.Guards.{IsOwn, IsNoFaultStep, IsNoFaultWithGuards, IsOver, GuardedRunsSafely}
use Rattle.soundness.specs.GuardedTables.{IsSafeWithGuards}
use Rattle.soundness.proofs.Room.{slot_fits, slot_weighs, Waiting, callers, left, Runs}
use Rattle.soundness.proofs.Taken.{Moves, OnNext, set_moves, answer_moves, quiet}
use Rattle.soundness.proofs.Progress.{calls_of, moves_on, progress}
use Rattle.soundness.proofs.Within.{runs_first}
use Rattle.soundness.proofs.Safe.{setting}
use Rattle.soundness.proofs.LooseTables.{same_step, guarded_step_safe, guarded_table_covers}

-- what a run keeps hangs on no stack

callers_filled : (frames : List Frame) → callers (map filled_frame frames) ≡ callers frames
callers_filled [] = refl
callers_filled (f ∷ rest) = ap (λ (cs : List (Option Caller)). f.caller ∷ cs) (callers_filled rest)

runs_filled : (program : List (Option Instr)) (whole : ℕ) (t : State) (n : ℕ) → Runs program whole t n → Runs program whole (filled t) n
unfolding filled
runs_filled program whole t n r =
    let f = r.framed in
    record {
      arrived = record { registers = r.arrived.registers; counts = r.arrived.counts; limit = r.arrived.limit };
      framed = record {
        number = f.number;
        depth = f.depth;
        deep = f.deep;
        below = f.below;
        waiting = subst (λ (cs : List (Option Caller)). Waiting program whole f.number f.depth cs f.below) (sym (callers_filled t.frames)) f.waiting;
        here = f.here;
      };
      pending = r.pending;
      waits = r.waits;
      total = r.total;
    }

guarded_next : (own : Bool) (x : Stepped) (u : State) → guarded own x ≡ Some (Next u) → (t : State) × (x ≡ Next t) × (u ≡ filled t)
guarded_next true (Next t) u e =
    let there : Some (Next (filled t)) ≡ Some (Next u) = e in
    let one : Next (filled t) ≡ Next u = cc in
    let same : filled t ≡ u = cc in
    (t, refl, sym same)
guarded_next false (Next t) u e = absurd (let bad : None ≡ Some (Next u) = e in cc)
guarded_next own (Done answer codes) u e = absurd (let bad : Some (Done answer codes) ≡ Some (Next u) = e in cc)
guarded_next own (Fault cause slot) u e = absurd (by (is_place cause) e)
  where
    by : (b : Bool) → (if b then None else Some (Fault cause slot)) ≡ Some (Next u) → ⊥
    by true f = let bad : None ≡ Some (Next u) = f in cc
    by false f = let bad : Some (Fault cause slot) ≡ Some (Next u) = f in cc

-- a step in the memory, and a checksum, go to the next slot

abbrev OnMade : (State → Type 0) → Option Made → Type 0
OnMade P None = Unit {0}
OnMade P (Some made) = OnNext P made.stepped

checked : (P : State → Type 0) (s : State) (o : Option MachineFault) (done : Stepped) → OnNext P done → OnNext P (option_map_or (λ cause. Fault cause s.slot) o done)
checked P s None done h = h
checked P s (Some cause) done h = tt

next_made : (P : State → Type 0) (program : List (Option Instr)) (s : State) (b : Bool) (done : Stepped) (own : List ℕ) → OnNext P done
    → OnMade P (if b then Some (record { stepped = goes_next program s done; memory = own }) else None)
next_made P program s true done own h = checked P s (first_failing (goes_on program (s.slot + 1) ∷ [])) done h
next_made P program s false done own h = tt

memory_moves : (program : List (Option Instr)) (device : List (List ℕ)) (own : List ℕ) (s : State) (i : Instr) → OnMade (Moves s i) (memory_step program device own s i)
unfolding memory_step edges_of
memory_moves program device own s (instr.Load size dst base distance) =
    next_made (Moves s (instr.Load size dst base distance)) program s (is_in_memory device (address s base distance) (byte_count size)) _ own (set_moves s (instr.Load size dst base distance) 1 dst _ refl)
memory_moves program device own s (instr.LoadSigned size dst base distance) =
    next_made (Moves s (instr.LoadSigned size dst base distance)) program s (is_in_memory device (address s base distance) (byte_count (plain_size size))) _ own (set_moves s (instr.LoadSigned size dst base distance) 1 dst _ refl)
memory_moves program device own s (instr.StoreImmediate size base distance n) =
    next_made (Moves s (instr.StoreImmediate size base distance n)) program s (is_in_memory device (address s base distance) (byte_count size)) _ _ (record { leads = inl refl; width = refl; counts = refl; frames = refl })
memory_moves program device own s (instr.Store size base distance src) =
    next_made (Moves s (instr.Store size base distance src)) program s (is_in_memory device (address s base distance) (byte_count size)) _ _ (record { leads = inl refl; width = refl; counts = refl; frames = refl })
memory_moves program device own s (instr.CallHelper number) = by (helper_of (cast_unsigned w32 number))
  where
    copies : (b : Bool) → OnMade (Moves s (instr.CallHelper number))
        (if b then memory_write program device own s (answer_step s (copy_answer device (word s 1) (word s 3))) (word s 2) (device_bytes device (word s 1) (word s 3)) (word s 3) else None)
    copies true = next_made (Moves s (instr.CallHelper number)) program s (is_in_memory device (word s 2) (word s 3)) _ _ (answer_moves s number _ (copy_answer device (word s 1) (word s 3)) refl refl refl refl)
    copies false = tt

    by : (h : Option Helper) → OnMade (Moves s (instr.CallHelper number)) (option_map_or (memory_call program device own s) h None)
    by None = tt
    by (Some helper.Copy) = copies (is_length (word s 3))
    by (Some h) = tt
memory_moves program device own s i = tt

sum_moves : (program : List (Option Instr)) (device : List (List ℕ)) (own : List ℕ) (s : State) (number : ℤ) (c : Checksum)
    → OnMade (Moves s (instr.CallHelper number)) (with_memory own (sum_step program device own s c))
unfolding sum_step
sum_moves program device own s number (of.OfDevice p) =
    checked (Moves s (instr.CallHelper number)) s (first_failing (reads s (query_arguments (query_for p)) ∷ goes_on program (s.slot + 1) ∷ [])) (answer_step s (query_answer device (query_for p) (word s 1) (word s 2) (word s 3)))
    (answer_moves s number _ (query_answer device (query_for p) (word s 1) (word s 2) (word s 3)) refl refl refl refl)
sum_moves program device own s number (of.OfMemory p) = by (first_failing (reads s (1 ∷ 2 ∷ 3 ∷ []) ∷ [])) (own_bytes device own s (word s 2) (taken (word s 3)))
  where
    by : (f : Option MachineFault) (found : Option (List ℕ)) → OnMade (Moves s (instr.CallHelper number))
        (with_memory own (option_map_or (λ (c : MachineFault). Some (Fault c s.slot)) f (option_map (λ (bs : List ℕ). answers_step program s (1 ∷ 2 ∷ 3 ∷ []) (sum_answer p (word s 1) bs)) found)))
    by (Some c) found = tt
    by None None = tt
    by None (Some bs) = checked (Moves s (instr.CallHelper number)) s (first_failing (reads s (1 ∷ 2 ∷ 3 ∷ []) ∷ goes_on program (s.slot + 1) ∷ [])) (answer_step s (sum_answer p (word s 1) bs)) (answer_moves s number _ (sum_answer p (word s 1) bs) refl refl refl refl)

-- and set no limit, test nothing, and ask for no turn
pub record IsQuiet (i : Instr) : Type 0 where
  pub sets : limit_of i ≡ None
  pub tests : zero_test i ≡ None
  pub turns : option_map_or (λ n. n == 3) (helper_number i) false ≡ false

no_third : (number : ℤ) → (cast_unsigned w32 number ≡ 3 → ⊥) → IsQuiet (instr.CallHelper number)
unfolding limit_of zero_test
no_third number other = record {
  sets = refl;
  tests = refl;
  turns = elim (eqb_tells (cast_unsigned w32 number) 3) [ inl same ↦ absurd (other same.1) | inr not_same ↦ not_same.0 ];
}

memory_quiet : (program : List (Option Instr)) (device : List (List ℕ)) (own : List ℕ) (s : State) (i : Instr) (made : Made) → memory_step program device own s i ≡ Some made → IsQuiet i
unfolding memory_step limit_of zero_test
memory_quiet program device own s (instr.Load size dst base distance) made e = record { sets = refl; tests = refl; turns = refl }
memory_quiet program device own s (instr.LoadSigned size dst base distance) made e = record { sets = refl; tests = refl; turns = refl }
memory_quiet program device own s (instr.StoreImmediate size base distance n) made e = record { sets = refl; tests = refl; turns = refl }
memory_quiet program device own s (instr.Store size base distance src) made e = record { sets = refl; tests = refl; turns = refl }
memory_quiet program device own s (instr.CallHelper number) made e =
    no_third number (λ third. let bad : None ≡ Some made = subst (λ (n : ℕ). option_map_or (memory_call program device own s) (helper_of n) None ≡ Some made) third e in cc)
memory_quiet program device own s _ made e = absurd (let bad : None ≡ Some made = e in cc)

sum_quiet : (number : ℤ) (c : Checksum) → checksum_of (cast_unsigned w32 number) ≡ Some c → IsQuiet (instr.CallHelper number)
sum_quiet number c e = no_third number (λ third. let bad : None ≡ Some c = subst (λ (n : ℕ). checksum_of n ≡ Some c) third e in cc)

module _ (program : List (Option Instr)) (context : Context) (device : List (List ℕ)) (sectors : ℕ) (table : List (Option Abstract)) (whole : ℕ)
    (p : IsProgram program) (shaped : IsShaped true program) (form : AgainHasForm) (set : IsSetting program sectors device context) (good : IsGoodWith true program sectors table) where
  -- along the next slot's edge
  quiet_runs : (s u : State) (i : Instr) (n : ℕ) → Runs program whole s (suc n) → at program s.slot ≡ Some i → IsQuiet i → Moves s i u → Runs program whole u n
  quiet_runs s u i n r there q moves =
      moves_on program (context_bytes context) device whole p shaped form s u i n r there (quiet s i u q.sets q.tests)
      (calls_of program (context_bytes context) device whole p shaped form s i there ∙ q.turns) moves

  made_runs : (own : List ℕ) (s u : State) (k : List ℕ) (i : Instr) (n : ℕ) → Runs program whole s (suc n) → at program s.slot ≡ Some i
      → made_of program (context_bytes context) device own s i ≡ Some (record { stepped = Next u; memory = k }) → Runs program whole u n
  unfolding made_of stack_step
  made_runs own s u k i n r there e = by_sum (checksum_asked i) refl e
    where
      done : Made
      done = record { stepped = Next u; memory = k }

      summed : (j : Instr) (c : Checksum) → i ≡ j → checksum_asked j ≡ Some c → with_memory own (sum_step program device own s c) ≡ Some done → Runs program whole u n
      summed (instr.CallHelper number) c is asked f =
          quiet_runs s u (instr.CallHelper number) n r (there ∙ ap Some is) (sum_quiet number c asked) (subst (OnMade (Moves s (instr.CallHelper number))) f (sum_moves program device own s number c))
      summed _ c is asked f = absurd (let bad : None ≡ Some c = asked in cc)

      by_stack : (x : Option Stepped) → stack_step program (context_bytes context) device s ≡ x → option_or (with_memory own x) (memory_step program device own s i) ≡ Some done → Runs program whole u n
      by_stack (Some x) is f =
          let came = guarded_next (writes_own_here program s) (step program (context_bytes context) device s) u (is ∙ ap (λ (y : Stepped). Some y) (same_step x (Next u) own k f)) in
          let runs : Runs program whole came.0 n = progress program (context_bytes context) device whole p shaped form s came.0 n r came.1 in
          subst (λ (v : State). Runs program whole v n) (sym came.2) (runs_filled program whole came.0 n runs)
      by_stack None is f = quiet_runs s u i n r there (memory_quiet program device own s i done f) (subst (OnMade (Moves s i)) f (memory_moves program device own s i))

      by_sum : (c : Option Checksum) → checksum_asked i ≡ c
          → option_map_or (λ (d : Checksum). with_memory own (sum_step program device own s d)) c (option_or (with_memory own (stack_step program (context_bytes context) device s)) (memory_step program device own s i)) ≡ Some done
          → Runs program whole u n
      by_sum (Some c) asked f = summed i c refl asked f
      by_sum None asked f = by_stack (stack_step program (context_bytes context) device s) refl f

  next_runs : (own : List ℕ) (s u : State) (k : List ℕ) (n : ℕ) → Runs program whole s (suc n)
      → guarded_step program (context_bytes context) device own s ≡ Some (record { stepped = Next u; memory = k }) → Runs program whole u n
  next_runs own s u k n r e = by (at program s.slot) refl e
    where
      by : (o : Option Instr) → at program s.slot ≡ o
          → option_map_or (made_of program (context_bytes context) device own s) o (with_memory own (Some (Fault fault.NoInstruction s.slot))) ≡ Some (record { stepped = Next u; memory = k })
          → Runs program whole u n
      by (Some i) there f = made_runs own s u k i n r there f
      by None there f =
          absurd (let bad : Fault fault.NoInstruction s.slot ≡ Next u = same_step (Fault fault.NoInstruction s.slot) (Next u) own k f in cc)

  ends : (steps : ℕ) (own : List ℕ) (s : State) → Runs program whole s steps → IsOwn own → IsKnown program sectors table s → filled s ≡ s
      → IsOver program table (guarded_end program (context_bytes context) device steps own s)
  unfolding guarded_end
  ends zero own s r bytes known full =
      let f = r.framed in
      let h = f.here in
      let one = slot_weighs program f.depth h.function.weight s.slot h.function.weights in
      let fits = slot_fits program h.function.weight s.slot h.room h.bounded in
      let none : left program s.turns * whole + r.pending + (h.room + f.below) ≤ 0 = r.total in
      absurd (omega (arith, one, fits, none))
  ends (suc n) own s r bytes known full =
      by_step (ends n) (guarded_step program (context_bytes context) device own s) refl (guarded_step_safe program sectors device context table own s set good bytes known full)
    where
      Later : Type 0
      Later = (k : List ℕ) (t : State) → Runs program whole t n → IsOwn k → IsKnown program sectors table t → filled t ≡ t → IsOver program table (guarded_end program (context_bytes context) device n k t)

      by_made : Later → (x : Stepped) (k : List ℕ) → guarded_step program (context_bytes context) device own s ≡ Some (record { stepped = x; memory = k })
          → IsSafeWithGuards program sectors table s (Some (record { stepped = x; memory = k }))
          → IsOver program table (after (guarded_end program (context_bytes context) device n k) x)
      by_made later (Next u) k e safe =
          let there = safe.goes u k refl in
          later k u (next_runs own s u k n r e) there.0 there.1 there.2
      by_made later (Done answer codes) k e safe = tt
      by_made later (Fault cause slot) k e safe = absurd (safe.sound (record { stepped = Fault cause slot; memory = k }) refl)

      by_step : Later → (x : Option Made) → guarded_step program (context_bytes context) device own s ≡ x → IsSafeWithGuards program sectors table s x
          → IsOver program table (guarded_after (guarded_end program (context_bytes context) device n) s.slot x)
      by_step later None e safe = safe.strays refl
      by_step later (Some x) e safe = by_made later x.stepped x.memory e safe

-- a step that is safe over a good table is no fault, and strays at a guarded slot alone
no_fault : (program : List (Option Instr)) (sectors : ℕ) (table : List (Option Abstract)) (s : State) (made : Option Made)
    → IsSafeWithGuards program sectors table s made → IsNoFaultWithGuards program table s made
no_fault program sectors table s None safe = safe.strays refl
no_fault program sectors table s (Some x) safe = by x.stepped (safe.sound x refl)
  where
    by : (y : Stepped) → IsNoFault y → IsNoFaultStep y
    by (Next t) h = tt
    by (Done answer codes) h = tt
    by (Fault cause slot) h = h

pub guarded_runs : AgainHasForm → GuardedRunsSafely
unfolding guarded_outcome
guarded_runs form v device context verified guards image =
    let good : IsGoodWith true v.program v.sectors v.table = subst (λ (g : Bool). IsGoodWith g v.program v.sectors v.table) guards verified.table.good in
    let set = setting v device context verified image in
    let b = verified.budget in
    let first = guarded_table_covers.reached v.program v.sectors device context v.table 0 zero_memory (filled start) set good (refl, refl) in
    record {
      faultless = λ n m s reached. no_fault v.program v.sectors v.table s (guarded_step v.program (context_bytes context) device m s)
          (guarded_table_covers.safe v.program v.sectors device context v.table n m s set good reached);
      ends = ends v.program context device v.sectors v.table b.longest verified.program set.shaped form set good v.budget zero_memory (filled start)
          (runs_filled v.program b.longest start v.budget (runs_first v.program v.budget b)) first.0 first.1 first.2;
    }
