-- Local calls (docs/VERIFIER.md, Calls within calls).
use Rattle.std.specs.Prelude.{ℕ, List, Option, None, Some}
use Rattle.std.specs.Option.{option_and_then}
use Rattle.bpf_isa.specs.declared.instr.Instr.{Instr}
use Rattle.bpf_isa.specs.declared.instr.Instr.TheVariants as instr
use Rattle.bpf_isa.specs.Slots.{at, target_slot}

-- the entry of the local function that an instruction at a slot calls
unfoldable pub callee_of : ℕ → Instr → Option ℕ
callee_of slot (instr.CallLocal distance) = Some (target_slot slot distance)
callee_of slot _ = None

-- the entry of the local call at a slot
unfoldable pub callee : List (Option Instr) → ℕ → Option ℕ
callee program slot = option_and_then (callee_of slot) (at program slot)
