-- The machines of which the laws speak, and the device and the context in which they run.
use Rattle.std.specs.Prelude.{◌≡◌, ◌<◌, ◌≤◌, ℕ, ◌^◌, true, List, [], ◌∷◌, length, slice_index_or, slice_index, slice_get, Option, None, Some}
use Rattle.base.specs.Sizes.{most_sectors}
use Rattle.bpf_isa.specs.declared.instr.Instr.{Instr}
use Rattle.bpf_isa.specs.Program.{IsProgram}
use Rattle.bpf_shape.specs.Again.{calls_again, limit_before}
use Rattle.bpf_shape.specs.Rules.{IsShaped}
use Rattle.helpers.specs.declared.device.Context.{Context}
use Rattle.machine.specs.State.{Caller, Frame, State, register}
use Rattle.ranges.specs.Order.{Each}

-- a sector of a device: 512 bytes
pub record IsSector (sector : List ℕ) : Type 0 where
  pub long : length sector ≡ 512
  pub bytes : (i : ℕ) → slice_index sector i < 256

-- A program of right shape with guards, which each has that has it without, on a device of that many sectors that is told of in the context.
pub record IsSetting (program : List (Option Instr)) (sectors : ℕ) (device : List (List ℕ)) (context : Context) : Type 0 where
  pub made : IsProgram program
  pub shaped : IsShaped true program
  pub count : length device ≡ sectors
  pub few : sectors ≤ most_sectors
  pub whole : (n : ℕ) (sector : List ℕ) → slice_get device n ≡ Some sector → IsSector sector
  pub told : context.sectors ≡ sectors
  pub epoch : context.epoch ≤ 65536
  pub marks : context.marks ≤ 65536

-- eleven registers, each unset or a word
pub record AreRegisters (registers : List (Option ℕ)) : Type 0 where
  pub long : length registers ≡ 11
  pub words : (r w : ℕ) → slice_index_or registers r None ≡ Some w → w < 2 ^ 64

-- a stack: 512 bytes, each unset or a number below 256
pub record IsStack (stack : List (Option ℕ)) : Type 0 where
  pub long : length stack ≡ 512
  pub bytes : (p b : ℕ) → slice_index_or stack p None ≡ Some b → b < 256

-- the outermost frame has no caller
abbrev pub first_caller : List Frame → Option Caller
first_caller [] = None
first_caller (f ∷ rest) = f.caller

-- a machine with one to four frames, each with a stack
pub record IsMachine (s : State) : Type 0 where
  pub registers : AreRegisters s.registers
  pub some : 1 ≤ length s.frames
  pub most : length s.frames ≤ 4
  pub stacks : Each (λ f. IsStack f.stack) s.frames
  pub outermost : first_caller s.frames ≡ None
  pub turns : length s.turns ≡ 4096

-- before a call of `again`, register 1 has the limit that is set there
abbrev pub HasLimit : List (Option Instr) → State → Type 0
HasLimit program s = (k : ℕ) → calls_again program s.slot ≡ true → limit_before program s.slot ≡ Some k → register s 1 ≡ Some k
