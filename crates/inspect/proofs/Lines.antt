-- The lines of a run, step by step: what is written and what is to come are all of them.
use Rattle.std.proofs.Common.{ℕ, suc, ◌≡◌, ◌<◌, ◌≤◌, ◌+◌, ◌-◌, nat_lt, if◌then◌else◌, List, [], ◌++◌, append_assoc, append-nil, Option, None, Some, refl, sym, ap, ◌∙◌, arith}
use Rattle.base.specs.declared.limits.Limits.{Limits}
use Rattle.notes.specs.SourceLines.{LineOfC}
use Rattle.machine.specs.State.{State}
use Rattle.machine.specs.Guards.{Made}
use Rattle.interp.specs.declared.walk.Halt.{Halt}
use Rattle.interp.specs.declared.walk.Halt.TheVariants as halt
use Rattle.interp.specs.Walks.{WalkValue, step_as, stepped_to, with_both}
use Rattle.inspect.specs.Trace.{beyond, step_text, trace_text}
use Rattle.inspect.proofs.Steps.{step_there, same_run}

-- the line of a step, if it is wanted
abbrev pub line_of : Limits → List LineOfC → WalkValue → ℕ → ℕ → List ℕ → State → List ℕ
line_of limits table w above number m s = if nat_lt above number then step_text limits table w.program number s (step_as w.guards w.program w.context w.device m s) else []

-- lines that came so far
pub record Traces (limits : Limits) (table : List LineOfC) (w : WalkValue) (steps above : ℕ) (first out : List ℕ) (made : ℕ) (v : WalkValue) : Type 0 where
  pub within : made ≤ steps
  pub same : v ≡ with_both w v.state v.memory
  pub lines : out ++ trace_text limits table w.guards w.program w.context w.device (steps - made) (made + 1) above v.memory v.state ≡ first ++ trace_text limits table w.guards w.program w.context w.device steps 1 above w.memory w.state

pub begin : (limits : Limits) (table : List LineOfC) (w : WalkValue) (steps above : ℕ) (first : List ℕ) → Traces limits table w steps above first first 0 w
begin limits table w steps above first =
    let all : steps - 0 ≡ steps = omega arith in
    record { within = omega arith; same = refl; lines = rw all refl }

-- the lines from one step on, of which x came
next : (limits : Limits) (table : List LineOfC) (w : WalkValue) (n number above : ℕ) (m : List ℕ) (s : State) (x : Option Made) → x ≡ step_as w.guards w.program w.context w.device m s
    → line_of limits table w above number m s ++ beyond [] (trace_text limits table w.guards w.program w.context w.device n (number + 1) above) x ≡ trace_text limits table w.guards w.program w.context w.device (suc n) number above m s
unfolding trace_text
next limits table w n number above m s x came =
    ap (λ (y : Option Made). line_of limits table w above number m s ++ beyond [] (trace_text limits table w.guards w.program w.context w.device n (number + 1) above) y) came

-- the line that was written is one of the run
line_there : (limits : Limits) (table : List LineOfC) (w v : WalkValue) (above number : ℕ) → v ≡ with_both w v.state v.memory
    → (if nat_lt above number then step_text limits table v.program number v.state (step_as v.guards v.program v.context v.device v.memory v.state) else []) ≡ line_of limits table w above number v.memory v.state
line_there limits table w v above number same =
    ap (λ (y : WalkValue). if nat_lt above number then step_text limits table y.program number v.state (step_as y.guards y.program y.context y.device v.memory v.state) else []) same

-- a step that was made, of which x came
step_lines : (limits : Limits) (table : List LineOfC) (w : WalkValue) (steps above : ℕ) (first out more : List ℕ) (made : ℕ) (v : WalkValue) (x : Option Made) → made < steps → Traces limits table w steps above first out made v
    → more ≡ out ++ (if nat_lt above (made + 1) then step_text limits table v.program (made + 1) v.state (step_as v.guards v.program v.context v.device v.memory v.state) else [])
    → x ≡ step_as v.guards v.program v.context v.device v.memory v.state
    → more ++ beyond [] (trace_text limits table w.guards w.program w.context w.device (steps - (made + 1)) (made + 1 + 1) above) x ≡ first ++ trace_text limits table w.guards w.program w.context w.device steps 1 above w.memory w.state
step_lines limits table w steps above first out more made v x less h written came =
    let stepped = step_there w v x h.same came in
    let rest : List ℕ = beyond [] (trace_text limits table w.guards w.program w.context w.device (steps - (made + 1)) (made + 1 + 1) above) x in
    let left : steps - made ≡ suc (steps - (made + 1)) = omega (arith, less) in
    let line = line_there limits table w v above (made + 1) h.same in
    ap (λ (xs : List ℕ). xs ++ rest) (written ∙ ap (λ (xs : List ℕ). out ++ xs) line)
    ∙ append_assoc out (line_of limits table w above (made + 1) v.memory v.state) rest
    ∙ ap (λ (xs : List ℕ). out ++ xs) (next limits table w (steps - (made + 1)) (made + 1) above v.memory v.state x stepped)
    ∙ ap (λ (n : ℕ). out ++ trace_text limits table w.guards w.program w.context w.device n (made + 1) above v.memory v.state) (sym left)
    ∙ h.lines

-- the run goes on
pub go_on : (limits : Limits) (table : List LineOfC) (w : WalkValue) (steps above : ℕ) (first out more : List ℕ) (made : ℕ) (v u : WalkValue) (end : Option Halt) → made < steps → Traces limits table w steps above first out made v
    → more ≡ out ++ (if nat_lt above (made + 1) then step_text limits table v.program (made + 1) v.state (step_as v.guards v.program v.context v.device v.memory v.state) else [])
    → end ≡ None → stepped_to u end ≡ step_as v.guards v.program v.context v.device v.memory v.state → u ≡ with_both v u.state u.memory → Traces limits table w steps above first more (made + 1) u
go_on limits table w steps above first out more made v u end less h written none came changed =
    let stepped : stepped_to u None ≡ step_as v.guards v.program v.context v.device v.memory v.state = rw none at came in
    record {
      within = omega (arith, less);
      same = same_run w v u h.same changed;
      lines = step_lines limits table w steps above first out more made v (stepped_to u None) less h written stepped;
    }

nothing_more : (limits : Limits) (table : List LineOfC) (w u : WalkValue) (n number above : ℕ) (h : Halt) → beyond [] (trace_text limits table w.guards w.program w.context w.device n number above) (stepped_to u (Some h)) ≡ []
nothing_more limits table w u n number above (halt.Verdict answer) = refl
nothing_more limits table w u n number above (halt.Fault cause slot) = refl
nothing_more limits table w u n number above (halt.Stray slot) = refl

-- the run ended
pub ended : (limits : Limits) (table : List LineOfC) (w : WalkValue) (steps above : ℕ) (first out more : List ℕ) (made : ℕ) (v u : WalkValue) (end : Option Halt) (h : Halt) → made < steps → Traces limits table w steps above first out made v
    → more ≡ out ++ (if nat_lt above (made + 1) then step_text limits table v.program (made + 1) v.state (step_as v.guards v.program v.context v.device v.memory v.state) else [])
    → end ≡ Some h → stepped_to u end ≡ step_as v.guards v.program v.context v.device v.memory v.state → more ≡ first ++ trace_text limits table w.guards w.program w.context w.device steps 1 above w.memory w.state
ended limits table w steps above first out more made v u end h less t written some came =
    let stepped : stepped_to u (Some h) ≡ step_as v.guards v.program v.context v.device v.memory v.state = rw some at came in
    sym (append-nil more) ∙ ap (λ (xs : List ℕ). more ++ xs) (sym (nothing_more limits table w u (steps - (made + 1)) (made + 1 + 1) above h))
    ∙ step_lines limits table w steps above first out more made v (stepped_to u (Some h)) less t written stepped

-- all steps were made
pub spent : (limits : Limits) (table : List LineOfC) (w : WalkValue) (steps above : ℕ) (first out : List ℕ) (made : ℕ) (v : WalkValue) → steps ≤ made → Traces limits table w steps above first out made v
    → out ≡ first ++ trace_text limits table w.guards w.program w.context w.device steps 1 above w.memory w.state
unfolding trace_text
spent limits table w steps above first out made v past t =
    let none : steps - made ≡ 0 = omega (arith, past) in
    let lines : out ++ [] ≡ first ++ trace_text limits table w.guards w.program w.context w.device steps 1 above w.memory w.state = rw none at t.lines in
    sym (append-nil out) ∙ lines
