-- What is inferred of a program, accepted or not, with guards or without (docs/VERIFIER.md, Inference).
use Rattle.std.specs.Prelude.{◌≡◌, ℕ, Bool, false, List, Option, None, Some}
use Rattle.bpf_isa.specs.declared.instr.Instr.{Instr}
use Rattle.bpf_shape.specs.Fault.{memory_fault}
use Rattle.bpf_shape.specs.Rules.{IsShaped, FirstBroken}
use Rattle.bpf_shape.specs.declared.fault.Fault.{Fault}
use Rattle.ranges.specs.States.{Abstract}
use Rattle.verifier.specs.Rounds.{IsSettled}
use Rattle.verifier.specs.Sought.{IsSought}
use Rattle.verifier.specs.Tables.{rule_with, state_at}
use Rattle.verifier.specs.Visits.{NeedMore, most_visits}

-- where the rounds need too many visits: a table to which a search comes, with a breach on it
pub record IsCutShort (guards : Bool) (program : List (Option Instr)) (sectors : ℕ) (table : List (Option Abstract)) (met : Fault) : Type 0 where
  pub long : NeedMore guards program sectors most_visits
  pub sought : IsSought guards program sectors table
  pub broken : rule_with guards program table met.slot ≡ Some met.code

-- the table that is inferred of a program of right shape, with the breach that was met, if the rounds were cut short
abbrev pub IsFound : Bool → List (Option Instr) → ℕ → List (Option Abstract) → Option Fault → Type 0
IsFound guards program sectors table None = IsSettled guards program sectors table
IsFound guards program sectors table (Some met) = IsCutShort guards program sectors table met

-- the table that is inferred of a program of right shape, good or not
pub record IsInferred (guards : Bool) (program : List (Option Instr)) (sectors : ℕ) (table : List (Option Abstract)) : Type 0 where
  pub shape : IsShaped guards program
  pub met : Option Fault
  pub found : IsFound guards program sectors table met

-- What is told beside a fault of a program that isn't accepted: nothing for want of memory, nor where a shape rule is
-- broken; else what the inferred table knows at the slot of the fault.
pub data IsKnownWith (guards : Bool) (program : List (Option Instr)) (sectors : ℕ) (f : Fault) : Option Abstract → Type 0 where
  without_memory : f ≡ memory_fault → IsKnownWith guards program sectors f None
  without_shape : FirstBroken guards program f.code f.slot → IsKnownWith guards program sectors f None
  on_table : (table : List (Option Abstract)) → IsInferred guards program sectors table → IsKnownWith guards program sectors f (state_at table f.slot)

-- without guards
abbrev pub IsKnown : List (Option Instr) → ℕ → Fault → Option Abstract → Type 0
IsKnown program sectors f known = IsKnownWith false program sectors f known
