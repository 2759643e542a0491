-- A run without faults ends within the budget.
use Rattle.std.proofs.Common.{ℕ, zero, suc, ◌≡◌, ◌+◌, ◌*◌, ◌≤◌, true, List, length, Option, Some, None, refl, ◌∙◌, ap, arith, suc-mul, mul-le-mul_right}
use Rattle.std.proofs.lemmas.List.{length-replicate}
use Rattle.base.specs.declared.causes.MachineFault.{MachineFault}
use Rattle.bpf_isa.specs.declared.instr.Instr.{Instr}
use Rattle.bpf_isa.specs.declared.instr.Condition.{Condition}
use Rattle.bpf_isa.specs.Program.{IsProgram}
use Rattle.bpf_shape.specs.Edges.{control}
use Rattle.bpf_shape.specs.Again.{limit_before, answer_test, turns_at, turns}
use Rattle.bpf_shape.specs.Budget.{most_calls, IsBudget}
use Rattle.bpf_shape.specs.Rules.{IsShaped}
use Rattle.bpf_shape.specs.Laws.{AgainHasForm}
use Rattle.bpf_shape.proofs.Kept.{shaped_with_guards}
use Rattle.bpf_shape.proofs.Walks.{stays}
use Rattle.machine.specs.State.{State, start, no_turns}
use Rattle.machine.specs.Step.{Stepped, Next, Done, Fault, step}
use Rattle.machine.specs.Outcome.{Verdict, Stopped, after, steps_end}
use Rattle.soundness.specs.Ending.{RunsEndWithinBudget}
use Rattle.soundness.proofs.Counts.{left_at_most}
use Rattle.soundness.proofs.Room.{slot_fits, slot_weighs, from_entry, Function, callers, Arrived, left, Framed, Runs}
use Rattle.soundness.proofs.Progress.{progress}

module _ (program : List (Option Instr)) (context : List ℕ) (device : List (List ℕ)) (whole : ℕ)
    (p : IsProgram program) (shaped : IsShaped true program) (form : AgainHasForm) where
  -- within that many steps from a state the program ends in a verdict
  pub record Ends (s : State) (steps : ℕ) : Type 0 where
    pub answer : ℕ
    pub codes : List ℕ
    pub verdict : steps_end program context device steps s ≡ Verdict answer codes

  abbrev HasNoFault : State → Type 0
  HasNoFault s = (n : ℕ) (cause : MachineFault) (slot : ℕ) → steps_end program context device n s ≡ Stopped cause slot → ⊥

  pub ends : (steps : ℕ) (s : State) → Runs program whole s steps → HasNoFault s → Ends s steps
  unfolding steps_end
  ends zero s r fine =
      let f = r.framed in
      let h = f.here in
      let one = slot_weighs program f.depth h.function.weight s.slot h.function.weights in
      let fits = slot_fits program h.function.weight s.slot h.room h.bounded in
      let none : left program s.turns * whole + r.pending + (h.room + f.below) ≤ 0 = r.total in
      absurd (omega (arith, one, fits, none))
  ends (suc n) s r fine = by_step (ends n) (step program context device s) refl
    where
      by_step : ((t : State) → Runs program whole t n → HasNoFault t → Ends t n) → (x : Stepped) → step program context device s ≡ x → Ends s (suc n)
      by_step later (Next t) e =
          let rest = later t (progress program context device whole p shaped form s t n r e) (λ m cause slot stop. fine (suc m) cause slot (ap (after (steps_end program context device m)) e ∙ stop)) in
          record { answer = rest.answer; codes = rest.codes; verdict = ap (after (steps_end program context device n)) e ∙ rest.verdict }
      by_step later (Done a codes) e = record { answer = a; codes = codes; verdict = ap (after (steps_end program context device n)) e }
      by_step later (Fault cause slot) e = absurd (fine 1 cause slot (ap (after (steps_end program context device 0)) e))

-- the start

arrived_first : (program : List (Option Instr)) → Arrived program start
unfolding start no_turns limit_before
arrived_first program = record {
  registers = refl;
  counts = length-replicate {A = ℕ} 4096 0;
  limit = λ k calls is. absurd (let bad : None ≡ Some k = is in cc);
}

no_test_first : (program : List (Option Instr)) (c : Condition) → answer_test program start.slot ≡ Some c → ⊥
unfolding start answer_test
no_test_first program c is = let bad : None ≡ Some c = is in cc

left_first : (program : List (Option Instr)) → left program start.turns ≤ turns program
unfolding turns
left_first program = left_at_most (turns_at program) start.turns (length program)

-- slot 0, with room for its longest path
framed_first : (program : List (Option Instr)) (budget : ℕ) (b : IsBudget program budget) → Framed program b.longest (callers start.frames) start.slot
unfolding start
framed_first program budget b =
    let g : Function program most_calls = record { entry = 0; weight = b.weight; weights = b.weights; longest = b.longest; path = b.path } in
    record {
      number = 0;
      depth = 3;
      deep = refl;
      below = 0;
      waiting = (refl, refl);
      here = record {
        function = g;
        reached = stays (control program) 0;
        room = b.longest;
        bounded = from_entry program b.weight 0 0 b.longest b.path (stays (control program) 0);
        fits = omega arith;
        again = omega arith;
      };
    }

room_first : (program : List (Option Instr)) (budget : ℕ) (b : IsBudget program budget)
    → (framed_first program budget b).here.room + (framed_first program budget b).below ≡ b.longest
unfolding start framed_first
room_first program budget b = omega arith

pub runs_first : (program : List (Option Instr)) (budget : ℕ) (b : IsBudget program budget) → Runs program b.longest start budget
runs_first program budget b =
    let all : left program start.turns * b.longest ≤ turns program * b.longest = mul-le-mul_right b.longest (left_first program) in
    let one : 1 + turns program ≡ suc (turns program) = omega arith in
    let product : budget ≡ turns program * b.longest + b.longest =
    b.product ∙ ap (λ (n : ℕ). n * b.longest) one ∙ suc-mul (turns program) b.longest in
    let room = room_first program budget b in
    record {
      arrived = arrived_first program;
      framed = framed_first program budget b;
      pending = 0;
      waits = λ c is. absurd (no_test_first program c is);
      total = omega (arith, all, product, room);
    }

pub runs_end : AgainHasForm → RunsEndWithinBudget
runs_end form guards program context device budget p shaped b never =
    let e = ends program context device b.longest p (shaped_with_guards guards program shaped) form budget start (runs_first program budget b) never in
    record { answer = e.answer; codes = e.codes; verdict = e.verdict }
