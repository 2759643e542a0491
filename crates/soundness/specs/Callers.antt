-- Frames that wait for the end of a local function (docs/MACHINE.md, State and start, and docs/VERIFIER.md,
-- Helper calls and local calls).
use Rattle.std.specs.Prelude.{◌≡◌, ◌<◌, ℕ, ◌+◌, ◌^◌, List, [], ◌∷◌, Option, None, Some}
use Rattle.bpf_isa.specs.declared.instr.Instr.{Instr}
use Rattle.bpf_shape.specs.Edges.{control}
use Rattle.bpf_shape.specs.Calls.{callee}
use Rattle.bpf_shape.specs.Paths.{Reaches}
use Rattle.machine.specs.State.{Caller, Frame}
use Rattle.ranges.specs.States.{Abstract}
use Rattle.verifier.specs.Tables.{state_at}
use Rattle.soundness.specs.Meaning.{CoversFrame}
use Rattle.soundness.specs.Machines.{AreRegisters}

-- the registers of a frame after its local call, where the function answered x
abbrev pub registers_after : Caller → ℕ → List (Option ℕ)
registers_after c x = Some x ∷ None ∷ None ∷ None ∷ None ∷ None ∷ c.registers

-- an abstract state covers a waiting frame with this number, this stack, and what its call saved, whichever
-- word the function answers
abbrev pub CoversWaiting : ℕ → ℕ → Abstract → List (Option ℕ) → Caller → Type 0
CoversWaiting sectors frame known stack c = (x : ℕ) → x < 2 ^ 64 → CoversFrame sectors frame known (registers_after c x) stack

-- A frame waits that runs the function at `entry`: it is at a local call, which it reached from there, of the
-- function at `enters`, and what the table knows after the call covers it.
pub record Waits (program : List (Option Instr)) (sectors : ℕ) (table : List (Option Abstract)) (frame entry enters : ℕ) (stack : List (Option ℕ)) (c : Caller) : Type 0 where
  pub call : ℕ
  pub reached : Reaches (control program) entry call
  pub calls : callee program call ≡ Some enters
  pub back : c.slot ≡ call + 1
  pub registers : (x : ℕ) → x < 2 ^ 64 → AreRegisters (registers_after c x)
  pub known : Abstract
  pub listed : state_at table c.slot ≡ Some known
  pub covers : CoversWaiting sectors frame known stack c

-- All frames of the list but the last wait. The first has this number and runs the function at `entry`; the
-- last is at `slot`, which it reached from the entry of its own function.
abbrev pub AreWaiting : List (Option Instr) → ℕ → List (Option Abstract) → ℕ → ℕ → List Frame → ℕ → Type 0
AreWaiting program sectors table frame entry [] slot = ⊥
AreWaiting program sectors table frame entry (f ∷ []) slot = Reaches (control program) entry slot
AreWaiting program sectors table frame entry (f ∷ g ∷ rest) slot =
    (c : Caller) × (enters : ℕ) × (g.caller ≡ Some c) × Waits program sectors table frame entry enters f.stack c
    × AreWaiting program sectors table (frame + 1) enters (g ∷ rest) slot
