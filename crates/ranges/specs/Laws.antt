-- What holds of abstract values and states.
use Rattle.std.specs.Prelude.{◌≡◌, ◌↔◌, ℕ, ◌<◌, ◌^◌, Bool, ℤ, true, None}
use Rattle.base.specs.Check.{first_failing}
use Rattle.bpf_isa.specs.declared.instr.Instr.{Instr}
use Rattle.bpf_isa.specs.declared.instr.Instr.TheVariants as instr
use Rattle.bpf_isa.specs.declared.instr.Source.{Source}
use Rattle.bpf_isa.specs.declared.instr.Width.{Width}
use Rattle.bpf_isa.specs.declared.instr.Condition.{Condition}
use Rattle.ranges.specs.Rules.{compares, rules}
use Rattle.bpf_isa.specs.Spelling.{IsInRange, IsSourceInRange}
use Rattle.ranges.specs.After.{after_of}
use Rattle.ranges.specs.Passing.{edge_of, entry_state, passes}
use Rattle.ranges.specs.Kinds.{Kind, join, round, Contains}
use Rattle.ranges.specs.States.{Abstract, join_state, round_state, StateContains, start}
use Rattle.ranges.specs.Order.{Under, StateUnder, IsBounded, IsState, Each, Holds, EdgeUnder, SentUnder}

-- The join of two values is the least value that holds all that either does, and one value contains
-- another just where it holds all that the other does.
pub record JoinIsLeast : Type 0 where
  pub first : (k l : Kind) → Under k (join k l)
  pub other : (k l : Kind) → Under l (join k l)
  pub least : (k l m : Kind) → Under k m → Under l m → Under (join k l) m
  pub contains : (k l : Kind) → Contains k l ↔ Under l k

-- rounding loses no machine value, and keeps the order
pub record RoundContains : Type 0 where
  pub contains : (k : Kind) → IsBounded k → Under k (round k)
  pub monotone : (k l : Kind) → IsBounded k → IsBounded l → Under k l → Under (round k) (round l)

-- the same of states
pub record StatesJoin : Type 0 where
  pub first : (s t : Abstract) → IsState s → IsState t → StateUnder s (join_state s t)
  pub other : (s t : Abstract) → IsState s → IsState t → StateUnder t (join_state s t)
  pub least : (s t u : Abstract) → IsState s → IsState t → IsState u → StateUnder s u → StateUnder t u → StateUnder (join_state s t) u
  pub contains : (s t : Abstract) → IsState s → IsState t → StateContains s t ↔ StateUnder t s

pub record StatesRound : Type 0 where
  pub contains : (s : Abstract) → IsState s → StateUnder s (round_state s)
  pub monotone : (s t : Abstract) → IsState s → IsState t → StateUnder s t → StateUnder (round_state s) (round_state t)

-- the state at the start is one, and has no ranges that rounding would widen
pub record StartFits : Type 0 where
  pub fits : IsState start
  pub rounded : round_state start ≡ start

-- what is made of states are states: eleven values and 64 groups within their bounds
pub record StatesFit : Type 0 where
  pub join : (s t : Abstract) → IsState s → IsState t → IsState (join_state s t)
  pub round : (s : Abstract) → IsState s → IsState (round_state s)
  pub after : (sectors : ℕ) (s : Abstract) (i : Instr) → sectors < 2 ^ 64 → IsInRange i → IsState s → Holds IsState (after_of sectors s i)
  pub edge : (s : Abstract) (i : Instr) (taken : Bool) → IsInRange i → IsState s → Holds IsState (edge_of s i taken)
  pub entry : (s : Abstract) → IsState s → IsState (entry_state s)
  pub passes : (sectors slot : ℕ) (s : Abstract) (i : Instr) → sectors < 2 ^ 64 → IsInRange i → IsState s → Each (λ p. IsState p.1) (passes sectors s slot i)

-- where the larger of two states keeps the rule of a conditional jump, the smaller one passes a
-- smaller state along each edge, and none where the larger passes none
abbrev pub EdgesAreMonotone : Type 0
EdgesAreMonotone = (s t : Abstract) (w : Width) (c : Condition) (dst : ℕ) (from : Source) (distance : ℤ) (taken : Bool)
    → IsSourceInRange from → IsState s → IsState t → StateUnder s t → compares t w c dst from ≡ true
    → EdgeUnder (edge_of s (instr.Branch w c dst from distance) taken) (edge_of t (instr.Branch w c dst from distance) taken)

-- the order of states is one
pub record StatesAreOrdered : Type 0 where
  pub self : (s : Abstract) → StateUnder s s
  pub chain : (s t u : Abstract) → StateUnder s t → StateUnder t u → StateUnder s u
  pub same : (s t : Abstract) → StateUnder s t → StateUnder t s → s ≡ t

-- a smaller state breaks no rule where a larger one breaks none
abbrev pub RulesAreMonotone : Type 0
RulesAreMonotone = (s t : Abstract) (i : Instr) → IsInRange i → IsState s → IsState t → StateUnder s t
    → first_failing (rules t i) ≡ None → first_failing (rules s i) ≡ None

-- there a smaller state is left with a smaller one after an instruction, or with none
abbrev pub AfterIsMonotone : Type 0
AfterIsMonotone = (sectors : ℕ) (s t : Abstract) (i : Instr) → IsInRange i → IsState s → IsState t → StateUnder s t
    → first_failing (rules t i) ≡ None → EdgeUnder (after_of sectors s i) (after_of sectors t i)

-- and passes on smaller states
abbrev pub PassesAreMonotone : Type 0
PassesAreMonotone = (sectors slot : ℕ) (s t : Abstract) (i : Instr) → IsInRange i → IsState s → IsState t → StateUnder s t
    → first_failing (rules t i) ≡ None → SentUnder (passes sectors s slot i) (passes sectors t slot i)
