-- What is known where the verifier refuses a program.
use Rattle.std.specs.Prelude.{ℕ, ◌≡◌, Bool, List, Option}
use Rattle.std.specs.Option.{option_map}
use Rattle.bpf_isa.specs.declared.instr.Instr.{Instr}
use Rattle.bpf_isa.specs.Program.{IsSpelledBy}
use Rattle.bpf_isa.specs.Slots.{at}
use Rattle.bpf_shape.specs.declared.fault.Fault.{Fault}
use Rattle.ranges.specs.SeenStates.{state_of}
use Rattle.verifier.specs.Inferred.{IsKnownWith}
use Rattle.verifier.specs.Verdicts.{RefusedWith}
use Rattle.request.specs.declared.facts.breach.Breach.{Breach}

-- the instruction at which the program that the bytes spell is refused for devices of that many sectors, with guards or without, and
-- what the verifier knows there
pub record FindsBreach (guards : Bool) (bytes : List ℕ) (sectors : ℕ) (b : Breach) : Type 0 where
  pub program : List (Option Instr)
  pub spelled : IsSpelledBy bytes program
  pub fault : Fault
  pub refused : RefusedWith guards program sectors fault.code fault.slot
  pub instr : b.instr ≡ at program fault.slot
  pub known : IsKnownWith guards program sectors fault (option_map state_of b.state)
