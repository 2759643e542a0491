-- What holds of tables, with guards and without.
use Rattle.std.specs.Prelude.{◌≡◌, ◌<◌, ◌^◌, ℕ, suc, Bool, true, false, List, Option}
use Rattle.base.specs.declared.causes.VerifierCause.{VerifierCause}
use Rattle.base.specs.declared.causes.VerifierCause.TheVariants as cause
use Rattle.bpf_isa.specs.declared.instr.Instr.{Instr}
use Rattle.bpf_isa.specs.Program.{IsProgram}
use Rattle.bpf_shape.specs.Rules.{IsShaped}
use Rattle.ranges.specs.States.{Abstract}
use Rattle.verifier.specs.Good.{IsGoodWith, IsGood}
use Rattle.verifier.specs.Unsigned.{IsUnsignedGood}
use Rattle.verifier.specs.Breaches.{FirstBreach, KeepsRules}
use Rattle.verifier.specs.Least.{IsLeast}
use Rattle.verifier.specs.Rounds.{rounds, IsSame, IsSettled}
use Rattle.verifier.specs.Measure.{weight}
use Rattle.verifier.specs.Verdicts.{VerifiedValue, IsVerified, RefusedWith}
use Rattle.verifier.specs.Visits.{NeedMore, most_visits}

-- a good table has no first breach
abbrev pub GoodHasNoBreach : Type 0
GoodHasNoBreach = (guards : Bool) (program : List (Option Instr)) (sectors : ℕ) (table : List (Option Abstract)) (c : VerifierCause) (slot : ℕ)
    → IsGoodWith guards program sectors table → FirstBreach guards program sectors table c slot → ⊥

-- a table has one first breach at most
abbrev pub OneBreach : Type 0
OneBreach = (guards : Bool) (program : List (Option Instr)) (sectors : ℕ) (table : List (Option Abstract)) (c d : VerifierCause) (s t : ℕ)
    → FirstBreach guards program sectors table c s → FirstBreach guards program sectors table d t → (c ≡ d) × (s ≡ t)

-- a settled table on which each slot keeps its rules is good
abbrev pub SettledIsGood : Type 0
SettledIsGood = (guards : Bool) (program : List (Option Instr)) (sectors : ℕ) (table : List (Option Abstract)) → sectors < 2 ^ 64 → IsProgram program → IsShaped guards program
    → IsSettled guards program sectors table → KeepsRules guards program table → IsGoodWith guards program sectors table

-- A table that is good under the rules without signed bounds is good under those with them, each number
-- with all readings of its words.
abbrev pub UnsignedStaysGood : Type 0
UnsignedStaysGood = (program : List (Option Instr)) (sectors : ℕ) (table : List (Option Abstract)) → sectors < 2 ^ 64 → IsProgram program
    → IsUnsignedGood program sectors table → IsGood program sectors table

-- A good table of a program of right shape is enough for a least one, and there is one least table only; no program is
-- refused for a table that isn't settled; and the least table without guards is the least one with them.
pub record AcceptanceIsExact : Type 0 where
  pub least : (guards : Bool) (program : List (Option Instr)) (sectors : ℕ) (g : List (Option Abstract)) → sectors < 2 ^ 64 → IsProgram program → IsShaped guards program
      → IsGoodWith guards program sectors g → (table : List (Option Abstract)) × IsLeast guards program sectors table
  pub one : (guards : Bool) (program : List (Option Instr)) (sectors : ℕ) (t u : List (Option Abstract)) → IsLeast guards program sectors t → IsLeast guards program sectors u → t ≡ u
  pub settled : (guards : Bool) (program : List (Option Instr)) (sectors slot : ℕ) → sectors < 2 ^ 64 → IsProgram program → RefusedWith guards program sectors cause.Unsettled slot → ⊥
  pub same : (program : List (Option Instr)) (sectors : ℕ) (table : List (Option Abstract)) → sectors < 2 ^ 64 → IsProgram program → IsShaped false program
      → IsLeast false program sectors table → IsLeast true program sectors table

-- each round that changes the table raises its sum, which stays below 2^96
pub record RoundsEnd : Type 0 where
  pub rises : (guards : Bool) (program : List (Option Instr)) (sectors turns : ℕ) → sectors < 2 ^ 64 → IsProgram program → IsShaped guards program
      → (IsSame guards program sectors (rounds guards program sectors turns) → ⊥) → weight (rounds guards program sectors turns) < weight (rounds guards program sectors (suc turns))
  pub below : (guards : Bool) (program : List (Option Instr)) (sectors turns : ℕ) → sectors < 2 ^ 64 → IsProgram program → IsShaped guards program
      → weight (rounds guards program sectors turns) < 2 ^ 96

-- A program has one verdict for a number of sectors, want of memory aside: one budget and one table, with guards and
-- without, or by each kind of acceptance one refusal, unless the rounds need more visits than are made.
pub record OneVerdict : Type 0 where
  pub refusal : (guards : Bool) (program : List (Option Instr)) (sectors : ℕ) (c d : VerifierCause) (s t : ℕ)
      → (NeedMore guards program sectors most_visits → ⊥) → RefusedWith guards program sectors c s → RefusedWith guards program sectors d t → (c ≡ d) × (s ≡ t)
  pub accepted : (v w : VerifiedValue) → IsVerified v → IsVerified w → v.program ≡ w.program → v.sectors ≡ w.sectors
      → (v.budget ≡ w.budget) × (v.table ≡ w.table)
  pub not_both : (v : VerifiedValue) (c : VerifierCause) (s : ℕ) → IsVerified v → RefusedWith v.guards v.program v.sectors c s → ⊥
