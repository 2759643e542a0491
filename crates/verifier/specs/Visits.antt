-- How often slots are visited in the rounds (docs/VERIFIER.md, Inference): a slot is visited in a round if it learned
-- something in the one before.
use Rattle.std.specs.Prelude.{◌≡◌, ◌<◌, ◌+◌, ℕ, zero, suc, Bool, true, false, List, length, get_or, Option, sum_by}
use Rattle.bpf_isa.specs.declared.instr.Instr.{Instr}
use Rattle.ranges.specs.States.{Abstract}
use Rattle.ranges.specs.Order.{Holds}
use Rattle.verifier.specs.Tables.{state_at, Covers}
use Rattle.verifier.specs.Rounds.{rounds}

-- what is known now isn't contained in what was known
abbrev pub Learns : Option Abstract → Option Abstract → Type 0
Learns old new = Holds (Covers old) new → ⊥

-- how many marks are set
abbrev pub one_if : Bool → ℕ
one_if true = 1
one_if false = 0

abbrev pub count_set : List Bool → ℕ
count_set marks = sum_by one_if marks

-- That many slots learned something from one table to another: those that are marked. The others know what they knew.
pub record HaveLearned (old : List (Option Abstract)) (new : List (Option Abstract)) (n : ℕ) : Type 0 where
  pub marks : List Bool
  pub long : length marks ≡ length new
  pub learned : (slot : ℕ) → get_or marks slot false ≡ true → Learns (state_at old slot) (state_at new slot)
  pub others : (slot : ℕ) → get_or marks slot false ≡ false → state_at new slot ≡ state_at old slot
  pub count : n ≡ count_set marks

-- that many visits come of that many rounds
abbrev pub Visits : Bool → List (Option Instr) → ℕ → ℕ → ℕ → Type 0
Visits guards program sectors zero n = n ≡ 0
Visits guards program sectors (suc turns) n =
    (m : ℕ) × (l : ℕ) × Visits guards program sectors turns m × HaveLearned (rounds guards program sectors turns) (rounds guards program sectors (suc turns)) l × (n ≡ m + l)

-- how many visits are made to find out how a program is refused
abbrev pub most_visits : ℕ
most_visits = 500000

-- the rounds need more
pub record NeedMore (guards : Bool) (program : List (Option Instr)) (sectors : ℕ) (most : ℕ) : Type 0 where
  pub turns : ℕ
  pub visits : ℕ
  pub made : Visits guards program sectors turns visits
  pub more : most < visits
