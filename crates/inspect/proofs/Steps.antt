-- A run, step by step: what is left of it leads to what the whole comes to.
use Rattle.std.proofs.Common.{ℕ, zero, suc, ◌≡◌, ◌<◌, ◌≤◌, ◌+◌, ◌-◌, Bool, true, false, List, Option, None, Some, refl, ap, ◌∙◌, arith}
use Rattle.bpf_isa.specs.declared.instr.Instr.{Instr}
use Rattle.helpers.specs.declared.device.Context.{Context}
use Rattle.machine.specs.Memory.{context_bytes}
use Rattle.machine.specs.State.{State}
use Rattle.machine.specs.Outcome.{OutOfSteps, Stray, steps_end, outcome}
use Rattle.machine.specs.Guards.{Made, guarded_after, guarded_end, guarded_outcome}
use Rattle.interp.specs.declared.walk.Halt.{Halt}
use Rattle.interp.specs.declared.walk.Halt.TheVariants as halt
use Rattle.interp.specs.Walks.{WalkValue, StraysAt, memory_as, outcome_as, start_as, step_as, steps_end_as, stepped_to, with_both}
use Rattle.inspect.specs.Trace.{beyond, ending_of_halt, steps_made}

-- a run that came so far
pub record Comes (w : WalkValue) (limit made : ℕ) (v : WalkValue) : Type 0 where
  pub within : made ≤ limit
  pub same : v ≡ with_both w v.state v.memory
  pub ends : steps_end_as w.guards w.program w.context w.device (limit - made) v.memory v.state ≡ steps_end_as w.guards w.program w.context w.device limit w.memory w.state
  pub steps : steps_made w.guards w.program w.context w.device (limit - made) v.memory v.state + made ≡ steps_made w.guards w.program w.context w.device limit w.memory w.state

pub begin : (w : WalkValue) (limit : ℕ) → Comes w limit 0 w
begin w limit =
    let all : limit - 0 ≡ limit = omega arith in
    let count : steps_made w.guards w.program w.context w.device limit w.memory w.state + 0 ≡ steps_made w.guards w.program w.context w.device limit w.memory w.state = omega arith in
    record { within = omega arith; same = refl; ends = rw all refl; steps = rw all count }

-- what a run ends in is what follows its first step
end_next : (guards : Bool) (program : List (Option Instr)) (context : List ℕ) (device : List (List ℕ)) (n : ℕ) (m : List ℕ) (s : State)
    → guarded_after (steps_end_as guards program context device n) s.slot (step_as guards program context device m s) ≡ steps_end_as guards program context device (suc n) m s
unfolding steps_end guarded_end
end_next true program context device n m s = refl
end_next false program context device n m s = refl

none_left : (guards : Bool) (program : List (Option Instr)) (context : List ℕ) (device : List (List ℕ)) (m : List ℕ) (s : State) → OutOfSteps ≡ steps_end_as guards program context device 0 m s
unfolding steps_end guarded_end
none_left true program context device m s = refl
none_left false program context device m s = refl

pub whole_run : (guards : Bool) (program : List (Option Instr)) (device : List (List ℕ)) (context : Context) (limit : ℕ)
    → steps_end_as guards program (context_bytes context) device limit (memory_as guards) (start_as guards) ≡ outcome_as guards program device context limit
unfolding outcome guarded_outcome
whole_run true program device context limit = refl
whole_run false program device context limit = refl

-- one step of it, of which x came
run_next : (w : WalkValue) (n : ℕ) (m : List ℕ) (s : State) (x : Option Made) → x ≡ step_as w.guards w.program w.context w.device m s
    → guarded_after (steps_end_as w.guards w.program w.context w.device n) s.slot x ≡ steps_end_as w.guards w.program w.context w.device (suc n) m s
run_next w n m s x came = ap (guarded_after (steps_end_as w.guards w.program w.context w.device n) s.slot) came ∙ end_next w.guards w.program w.context w.device n m s

count_next : (w : WalkValue) (n : ℕ) (m : List ℕ) (s : State) (x : Option Made) → x ≡ step_as w.guards w.program w.context w.device m s
    → beyond 0 (steps_made w.guards w.program w.context w.device n) x + 1 ≡ steps_made w.guards w.program w.context w.device (suc n) m s
unfolding steps_made
count_next w n m s x came = ap (λ (y : Option Made). beyond 0 (steps_made w.guards w.program w.context w.device n) y + 1) came

-- the step that was made is one of the run
pub step_there : (w v : WalkValue) (x : Option Made) → v ≡ with_both w v.state v.memory → x ≡ step_as v.guards v.program v.context v.device v.memory v.state
    → x ≡ step_as w.guards w.program w.context w.device v.memory v.state
step_there w v x same came = came ∙ ap (λ (y : WalkValue). step_as y.guards y.program y.context y.device v.memory v.state) same

pub same_run : (w v u : WalkValue) → v ≡ with_both w v.state v.memory → u ≡ with_both v u.state u.memory → u ≡ with_both w u.state u.memory
same_run w v u same more = more ∙ ap (λ (y : WalkValue). with_both y u.state u.memory) same

-- the run goes on
pub go_on : (w : WalkValue) (limit made : ℕ) (v u : WalkValue) (end : Option Halt) → made < limit → Comes w limit made v → end ≡ None
    → stepped_to u end ≡ step_as v.guards v.program v.context v.device v.memory v.state → u ≡ with_both v u.state u.memory → Comes w limit (made + 1) u
go_on w limit made v u end less h none came more =
    let next : stepped_to u None ≡ step_as v.guards v.program v.context v.device v.memory v.state = rw none at came in
    let stepped = step_there w v (stepped_to u None) h.same next in
    let left : limit - made ≡ suc (limit - (made + 1)) = omega (arith, less) in
    let ends : steps_end_as w.guards w.program w.context w.device (suc (limit - (made + 1))) v.memory v.state ≡ steps_end_as w.guards w.program w.context w.device limit w.memory w.state = rw left at h.ends in
    let steps : steps_made w.guards w.program w.context w.device (suc (limit - (made + 1))) v.memory v.state + made ≡ steps_made w.guards w.program w.context w.device limit w.memory w.state = rw left at h.steps in
    let count : steps_made w.guards w.program w.context w.device (limit - (made + 1)) u.memory u.state + 1 ≡ steps_made w.guards w.program w.context w.device (suc (limit - (made + 1))) v.memory v.state =
    count_next w (limit - (made + 1)) v.memory v.state (stepped_to u None) stepped in
    record {
      within = omega (arith, less);
      same = same_run w v u h.same more;
      ends = run_next w (limit - (made + 1)) v.memory v.state (stepped_to u None) stepped ∙ ends;
      steps = omega (arith, steps, count);
    }

-- what it came to where it ended
ending_halted : (w u : WalkValue) (n slot : ℕ) (h : Halt) → StraysAt slot (Some h)
    → ending_of_halt u.state.codes h ≡ guarded_after (steps_end_as w.guards w.program w.context w.device n) slot (stepped_to u (Some h))
ending_halted w u n slot (halt.Verdict answer) there = refl
ending_halted w u n slot (halt.Fault cause at) there = refl
ending_halted w u n slot (halt.Stray at) there = ap Stray there

count_halted : (w u : WalkValue) (n : ℕ) (h : Halt) → beyond 0 (steps_made w.guards w.program w.context w.device n) (stepped_to u (Some h)) ≡ 0
count_halted w u n (halt.Verdict answer) = refl
count_halted w u n (halt.Fault cause slot) = refl
count_halted w u n (halt.Stray slot) = refl

pub ended : (w : WalkValue) (limit made : ℕ) (v u : WalkValue) (end : Option Halt) (h : Halt) → made < limit → Comes w limit made v → end ≡ Some h
    → stepped_to u end ≡ step_as v.guards v.program v.context v.device v.memory v.state → StraysAt v.state.slot end
    → (ending_of_halt u.state.codes h ≡ steps_end_as w.guards w.program w.context w.device limit w.memory w.state) × (made + 1 ≡ steps_made w.guards w.program w.context w.device limit w.memory w.state)
ended w limit made v u end h less c some came there =
    let here : StraysAt v.state.slot (Some h) = rw some at there in
    let stop : stepped_to u (Some h) ≡ step_as v.guards v.program v.context v.device v.memory v.state = rw some at came in
    let stepped = step_there w v (stepped_to u (Some h)) c.same stop in
    let left : limit - made ≡ suc (limit - (made + 1)) = omega (arith, less) in
    let ends : steps_end_as w.guards w.program w.context w.device (suc (limit - (made + 1))) v.memory v.state ≡ steps_end_as w.guards w.program w.context w.device limit w.memory w.state = rw left at c.ends in
    let steps : steps_made w.guards w.program w.context w.device (suc (limit - (made + 1))) v.memory v.state + made ≡ steps_made w.guards w.program w.context w.device limit w.memory w.state = rw left at c.steps in
    let count = count_next w (limit - (made + 1)) v.memory v.state (stepped_to u (Some h)) stepped in
    let none = count_halted w u (limit - (made + 1)) h in
    (ending_halted w u (limit - (made + 1)) v.state.slot h here ∙ run_next w (limit - (made + 1)) v.memory v.state (stepped_to u (Some h)) stepped ∙ ends, omega (arith, steps, count, none))

-- all steps were made
pub spent : (w : WalkValue) (limit made : ℕ) (v : WalkValue) → limit ≤ made → Comes w limit made v
    → (OutOfSteps ≡ steps_end_as w.guards w.program w.context w.device limit w.memory w.state) × (limit ≡ steps_made w.guards w.program w.context w.device limit w.memory w.state)
unfolding steps_made
spent w limit made v past c =
    let none : limit - made ≡ 0 = omega (arith, past) in
    let all : made ≡ limit = omega (arith, past, c.within) in
    let ends : steps_end_as w.guards w.program w.context w.device 0 v.memory v.state ≡ steps_end_as w.guards w.program w.context w.device limit w.memory w.state = rw none at c.ends in
    let steps : 0 + made ≡ steps_made w.guards w.program w.context w.device limit w.memory w.state = rw none at c.steps in
    (none_left w.guards w.program w.context w.device v.memory v.state ∙ ends, omega (arith, steps, all))

-- where nothing is there
pub not_some : {X : Type 0} (x : Option X) → ((y : X) → x ≡ Some y → ⊥) → x ≡ None
not_some None none = refl
not_some (Some y) none = absurd (none y refl)
