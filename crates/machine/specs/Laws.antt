-- What holds of the machine.
use Rattle.std.specs.Prelude.{◌≡◌, ℕ, nat_lt, ◌&&◌, Bool, true, IsTrue, List, [], ◌∷◌, map, Option}
use Rattle.base.specs.Check.{Check}
use Rattle.base.specs.declared.causes.MachineFault.{MachineFault}
use Rattle.base.specs.declared.causes.MachineFault.TheVariants as fault
use Rattle.bpf_isa.specs.declared.instr.Instr.{Instr}
use Rattle.helpers.specs.declared.device.Context.{Context}
use Rattle.machine.specs.declared.ByteAt.{ByteAt}
use Rattle.machine.specs.State.{State}
use Rattle.machine.specs.Step.{checks}
use Rattle.machine.specs.Outcome.{IsJudgement}

-- the line of a fault in the fault table (docs/MACHINE.md, Faults)
abbrev pub line_of : MachineFault → ℕ
line_of fault.FramePointer = 1
line_of fault.UnknownHelper = 2
line_of fault.UnsetRegister = 3
line_of fault.HelperArgument = 4
line_of fault.Unmapped = 5
line_of fault.ReadOnly = 6
line_of fault.UnsetByte = 7
line_of fault.FrameLimit = 8
line_of fault.NoInstruction = 9

-- each number is above the one before, and the first above n
abbrev pub rises_from : ℕ → List ℕ → Bool
rises_from n [] = true
rises_from n (m ∷ rest) = nat_lt n m && rises_from m rest

-- the checks of each instruction stand in the order of the table, each fault once
abbrev pub AreInOrder : Type 0
AreInOrder = (program : List (Option Instr)) (bytes : ℕ → ByteAt) (s : State) (i : Instr)
    → IsTrue (rises_from 0 (map (λ (c : Check MachineFault). line_of c.cause) (checks program bytes s i)))

-- a program has at most one judgement
abbrev pub OneJudgement : Type 0
OneJudgement = (program : List (Option Instr)) (device : List (List ℕ)) (context : Context) (a b : ℕ) (codes others : List ℕ)
    → IsJudgement program device context a codes → IsJudgement program device context b others → (a ≡ b) × (codes ≡ others)
