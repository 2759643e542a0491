-- Room for the path at hand in each frame, and what holds before each step of a run.
use Rattle.std.proofs.Common.{ℕ, zero, suc, ◌≡◌, ◌+◌, ◌-◌, ◌*◌, ◌≤◌, ◌⊎◌, ℤ, true, List, [], ◌∷◌, ◌++◌, length, map, Option, Some, None, refl, arith}
use Rattle.bpf_isa.specs.declared.instr.Instr.{Instr}
use Rattle.bpf_isa.specs.declared.instr.Instr.TheVariants as instr
use Rattle.bpf_isa.specs.declared.instr.Condition.{Condition}
use Rattle.bpf_isa.specs.Slots.{at}
use Rattle.bpf_shape.specs.Edges.{control}
use Rattle.bpf_shape.specs.Calls.{callee}
use Rattle.bpf_shape.specs.Again.{calls_again, limit_before, answer_test, plain, turns_at}
use Rattle.bpf_shape.specs.Paths.{Leads, IsPath, Reaches}
use Rattle.bpf_shape.specs.Weights.{path_weight, IsLongest, Weighs, AreWeights}
use Rattle.machine.specs.State.{Caller, Frame, State, register, word}
use Rattle.soundness.proofs.Counts.{left_of}

-- no path from slot s weighs more than k
pub record Bounded (program : List (Option Instr)) (weight : ℕ → ℕ) (s k : ℕ) : Type 0 where
  pub most : (p : List ℕ) → IsPath program s p → path_weight weight s p ≤ k

pub bounded_next : (program : List (Option Instr)) (weight : ℕ → ℕ) (s t k : ℕ) → Bounded program weight s k → Leads (plain program s) t
    → Bounded program weight t (k - weight s)
bounded_next program weight s t k b leads = record {
  most = λ p path.
      let more : weight s + path_weight weight t p ≤ k = b.most (t ∷ p) (leads, path) in
      omega (arith, more);
}

pub slot_fits : (program : List (Option Instr)) (weight : ℕ → ℕ) (s k : ℕ) → Bounded program weight s k → weight s ≤ k
slot_fits program weight s k b = b.most [] tt

pub from_entry : (program : List (Option Instr)) (weight : ℕ → ℕ) (entry s n : ℕ) → IsLongest program weight entry n → Reaches (control program) entry s
    → Bounded program weight s n
from_entry program weight entry s n l reached = record {
  most = λ p path. l.most (path_weight weight s p) (record { first = s; rest = p; reached = reached; path = path; heavy = refl });
}

-- each slot weighs something
weighs_some : (program : List (Option Instr)) (inner : ℕ → ℕ) (o : Option ℕ) (n : ℕ) → Weighs program inner o n → 1 ≤ n
weighs_some program inner None n w = omega (arith, w)
weighs_some program inner (Some entry) n w = omega (arith, w.1.1)

pub slot_weighs : (program : List (Option Instr)) (depth : ℕ) (weight : ℕ → ℕ) (s : ℕ) → AreWeights program depth weight → 1 ≤ weight s
slot_weighs program zero weight s w = let one = w s in omega (arith, one)
slot_weighs program (suc depth) weight s w = weighs_some program w.0 (callee program s) (weight s) (w.1.1 s)

-- a local function, or the program itself, with calls followed that many deep
pub record Function (program : List (Option Instr)) (depth : ℕ) : Type 0 where
  pub entry : ℕ
  pub weight : ℕ → ℕ
  pub weights : AreWeights program depth weight
  pub longest : ℕ
  pub path : IsLongest program weight entry longest

-- A function at a slot, with room for the path from there. The frames below it have some room together;
-- with it both the room here and a longest path of the function are within the whole.
pub record Stands (program : List (Option Instr)) (whole depth slot below : ℕ) : Type 0 where
  pub function : Function program depth
  pub reached : Reaches (control program) function.entry slot
  pub room : ℕ
  pub bounded : Bounded program function.weight slot room
  pub fits : room + below ≤ whole
  pub again : function.longest + below ≤ whole

-- The frames below wait after their calls, and have so much room together.
pub record WaitsBelow (program : List (Option Instr)) (whole depth : ℕ) (Rest : List (Option Caller) → ℕ → Type 0) (callers : List (Option Caller)) (below : ℕ) : Type 0 where
  pub front : List (Option Caller)
  pub caller : Caller
  pub are : callers ≡ front ++ Some caller ∷ []
  pub width : length caller.registers ≡ 5
  pub call : ℕ
  pub distance : ℤ
  pub there : at program call ≡ Some (instr.CallLocal distance)
  pub back : caller.slot ≡ call + 1
  pub under : ℕ
  pub here : Stands program whole depth caller.slot under
  pub sum : below ≡ here.room + under
  pub rest : Rest front under

abbrev pub Waiting : List (Option Instr) → ℕ → ℕ → ℕ → List (Option Caller) → ℕ → Type 0
Waiting program whole zero depth callers below = (callers ≡ None ∷ []) × (below ≡ 0)
Waiting program whole (suc frames) depth callers below =
    WaitsBelow program whole (suc depth) (Waiting program whole frames (suc depth)) callers below

-- what the calls of the frames saved
abbrev pub callers : List Frame → List (Option Caller)
callers frames = map (λ (f : Frame). f.caller) frames

-- what holds of a state that the machine has reached
pub record Arrived (program : List (Option Instr)) (s : State) : Type 0 where
  pub registers : length s.registers ≡ 11
  pub counts : length s.turns ≡ 4096
  pub limit : (k : ℕ) → calls_again program s.slot ≡ true → limit_before program s.slot ≡ Some k → register s 1 ≡ Some k

-- how often `again` may still answer 1
abbrev pub left : List (Option Instr) → List ℕ → ℕ
left program ts = left_of (turns_at program) ts (length program)

pub same_total : (program : List (Option Instr)) (u v : List ℕ) (room whole steps : ℕ) → u ≡ v → left program v * whole + room ≤ steps
    → left program u * whole + 0 + room ≤ steps
same_total program u v room whole steps same total =
    let there : left program v * whole + 0 + room ≤ steps = omega (arith, total) in
    rw same there

-- the frames of a state: where each stands
pub record Framed (program : List (Option Instr)) (whole : ℕ) (frames : List (Option Caller)) (slot : ℕ) : Type 0 where
  pub number : ℕ
  pub depth : ℕ
  pub deep : number + depth ≡ 3
  pub below : ℕ
  pub waiting : Waiting program whole number depth frames below
  pub here : Stands program whole depth slot below

-- what holds before each step, with that many steps to go: there is room for the paths at hand; where the
-- answer of a call is tested it is 0, or a whole path is pending
pub record Runs (program : List (Option Instr)) (whole : ℕ) (s : State) (steps : ℕ) : Type 0 where
  pub arrived : Arrived program s
  pub framed : Framed program whole (callers s.frames) s.slot
  pub pending : ℕ
  pub waits : (c : Condition) → answer_test program s.slot ≡ Some c → (word s 0 ≡ 0) ⊎ (whole ≤ pending)
  pub total : left program s.turns * whole + pending + (framed.here.room + framed.below) ≤ steps

-- room for the paths from the next slot
pub record Space (program : List (Option Instr)) (s t : State) (whole steps : ℕ) : Type 0 where
  pub framed : Framed program whole (callers t.frames) t.slot
  pub total : left program s.turns * whole + (framed.here.room + framed.below) ≤ steps

pub step_taken : (l p r w b steps : ℕ) → l + p + (r + b) ≤ suc steps → w ≤ r → 1 ≤ w → l + (r - w + b) ≤ steps
step_taken l p r w b steps total room some = omega (arith, total, room, some)

pub path_taken : (l p r b n whole steps : ℕ) → l + p + (r + b) ≤ suc steps → 1 ≤ r → whole ≤ p → n + b ≤ whole → l + (n + b) ≤ steps
path_taken l p r b n whole steps total room enough fits = omega (arith, total, room, enough, fits)

-- a call: its weight is one more than the longest path of its entry
pub call_taken : (l p r w n b steps : ℕ) → l + p + (r + b) ≤ suc steps → w ≤ r → w ≡ 1 + n → l + 0 + (n + (r - w + b)) ≤ steps
call_taken l p r w n b steps total room weighs = omega (arith, total, room, weighs)

-- a return
pub return_taken : (l p r b n steps : ℕ) → l + p + (r + b) ≤ suc steps → 1 ≤ r → b ≡ n → l + 0 + n ≤ steps
return_taken l p r b n steps total room sum = omega (arith, total, room, sum)
