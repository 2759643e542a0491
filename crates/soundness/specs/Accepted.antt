-- What is promised of a program that the verifier accepts (docs/PROVED.md, The headline guarantee,
-- Verifier soundness).
use Rattle.std.specs.Prelude.{◌≡◌, ◌≤◌, ℕ, List, length, slice_get, Option, Some}
use Rattle.bpf_isa.specs.declared.instr.Instr.{Instr}
use Rattle.helpers.specs.declared.device.Context.{Context}
use Rattle.machine.specs.Memory.{context_bytes}
use Rattle.machine.specs.Outcome.{Verdict, outcome}
use Rattle.verifier.specs.Verdicts.{IsAccepted}
use Rattle.soundness.specs.Machines.{IsSector}
use Rattle.soundness.specs.Reaching.{StepsWithoutFault}

-- an image of a device of that many sectors, and a context that tells of it
pub record IsImage (sectors : ℕ) (device : List (List ℕ)) (context : Context) : Type 0 where
  pub count : length device ≡ sectors
  pub whole : (n : ℕ) (sector : List ℕ) → slice_get device n ≡ Some sector → IsSector sector
  pub told : context.sectors ≡ sectors
  pub epoch : context.epoch ≤ 65536
  pub marks : context.marks ≤ 65536

-- a run of the machine is safe: no step is a fault, and it ends in a verdict within that many steps
pub record IsSafeRun (program : List (Option Instr)) (device : List (List ℕ)) (context : Context) (budget : ℕ) : Type 0 where
  pub faultless : StepsWithoutFault program (context_bytes context) device
  pub answer : ℕ
  pub codes : List ℕ
  pub ends : outcome program device context budget ≡ Verdict answer codes

-- an accepted program runs safely within its budget on each image of the size for which it was accepted
abbrev pub AcceptedRunsSafely : Type 0
AcceptedRunsSafely = (program : List (Option Instr)) (sectors budget : ℕ) (device : List (List ℕ)) (context : Context)
    → IsAccepted program sectors budget → IsImage sectors device context → IsSafeRun program device context budget
