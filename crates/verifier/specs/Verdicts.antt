-- Which programs are accepted, with guards or without, and how the others are refused (docs/VERIFIER.md).
use Rattle.std.specs.Prelude.{◌≡◌, ◌≤◌, ℕ, Bool, false, List, Option, Some}
use Rattle.base.specs.Sizes.{most_sectors}
use Rattle.base.specs.declared.causes.VerifierCause.{VerifierCause}
use Rattle.bpf_isa.specs.declared.instr.Instr.{Instr}
use Rattle.bpf_isa.specs.Program.{IsProgram}
use Rattle.bpf_shape.specs.Budget.{IsBudget, most_steps}
use Rattle.bpf_shape.specs.Rules.{IsShaped, FirstBroken}
use Rattle.ranges.specs.States.{Abstract}
use Rattle.verifier.specs.Breaches.{FirstBreach}
use Rattle.verifier.specs.Least.{IsLeast, HasNoGood}
use Rattle.verifier.specs.Rounds.{IsSettled}
use Rattle.verifier.specs.Sought.{IsSought}
use Rattle.verifier.specs.Tables.{rule_with}
use Rattle.verifier.specs.Visits.{NeedMore, most_visits}

-- a program that is accepted for a number of sectors, with guards or without
pub record VerifiedValue : Type 0 where
  pub guards : Bool
  pub program : List (Option Instr)
  pub sectors : ℕ
  pub budget : ℕ
  pub table : List (Option Abstract)

-- it has right shape, this is its budget, and this its least good table
pub record IsVerified (v : VerifiedValue) : Type 0 where
  pub some : 1 ≤ v.sectors
  pub device : v.sectors ≤ most_sectors
  pub program : IsProgram v.program
  pub shape : IsShaped v.guards v.program
  pub budget : IsBudget v.program v.budget
  pub limit : v.budget ≤ most_steps
  pub table : IsLeast v.guards v.program v.sectors v.table

-- A program that isn't: it has not the right shape, and this is the first broken shape rule; or no table is good for
-- it, and this is the first breach of the table at which the rounds end. Where the rounds need more than 500,000 visits
-- of slots, it may be a breach on a table to which a search comes.
pub data RefusedWith (guards : Bool) (program : List (Option Instr)) (sectors : ℕ) : VerifierCause → ℕ → Type 0 where
  shape : (c : VerifierCause) (slot : ℕ) → FirstBroken guards program c slot → RefusedWith guards program sectors c slot
  no_table : (c : VerifierCause) (slot : ℕ) (table : List (Option Abstract)) → IsShaped guards program → HasNoGood guards program sectors
      → IsSettled guards program sectors table → FirstBreach guards program sectors table c slot → RefusedWith guards program sectors c slot
  sought : (c : VerifierCause) (slot : ℕ) (table : List (Option Abstract)) → IsShaped guards program → HasNoGood guards program sectors
      → NeedMore guards program sectors most_visits → IsSought guards program sectors table → rule_with guards program table slot ≡ Some c → RefusedWith guards program sectors c slot

-- a program is accepted for that many sectors, with that budget
abbrev pub IsAcceptedWith : Bool → List (Option Instr) → ℕ → ℕ → Type 0
IsAcceptedWith guards program sectors budget =
    (table : List (Option Abstract)) × IsVerified (record { guards = guards; program = program; sectors = sectors; budget = budget; table = table })

-- without guards
abbrev pub IsAccepted : List (Option Instr) → ℕ → ℕ → Type 0
IsAccepted program sectors budget = IsAcceptedWith false program sectors budget

abbrev pub Refused : List (Option Instr) → ℕ → VerifierCause → ℕ → Type 0
Refused program sectors c slot = RefusedWith false program sectors c slot
