-- Control edges (docs/VERIFIER.md, Control edges).
use Rattle.std.specs.Prelude.{ℕ, ◌+◌, Bool, List, Option, None, Some, is_some}
use Rattle.std.specs.Option.{option_map_or}
use Rattle.bpf_isa.specs.declared.instr.Instr.{Instr}
use Rattle.bpf_isa.specs.declared.instr.Instr.TheVariants as instr
use Rattle.bpf_isa.specs.Slots.{at, target_slot}
use Rattle.bpf_shape.specs.declared.edges.Edges.{Edges}

-- it is a slot of the program and no second half
abbrev pub begins : List (Option Instr) → ℕ → Bool
begins program slot = is_some (at program slot)

-- an edge to the next slot, and one to the target of a jump
abbrev pub edges : Option ℕ → Option ℕ → Edges
edges next target = record { next = next; target = target }

abbrev pub no_edges : Edges
no_edges = edges None None

-- only to the slot after an instruction of one slot
abbrev pub goes_on : ℕ → Edges
goes_on slot = edges (Some (slot + 1)) None

-- where control goes from an instruction
unfoldable pub edges_of : ℕ → Instr → Edges
edges_of slot instr.Exit = no_edges
edges_of slot (instr.Jump distance) = edges None (Some (target_slot slot distance))
edges_of slot (instr.LongJump distance) = edges None (Some (target_slot slot distance))
edges_of slot (instr.Branch w c dst from distance) = edges (Some (slot + 1)) (Some (target_slot slot distance))
edges_of slot (instr.LoadImmediate dst value) = edges (Some (slot + 2)) None
edges_of slot (instr.Arithmetic w o dst source) = goes_on slot
edges_of slot (instr.Negate w dst) = goes_on slot
edges_of slot (instr.SignExtend e dst src) = goes_on slot
edges_of slot (instr.ByteOrder o size dst) = goes_on slot
edges_of slot (instr.CallHelper number) = goes_on slot
edges_of slot (instr.CallLocal distance) = goes_on slot
edges_of slot (instr.Load size dst base offset) = goes_on slot
edges_of slot (instr.LoadSigned size dst base offset) = goes_on slot
edges_of slot (instr.StoreImmediate size base offset immediate) = goes_on slot
edges_of slot (instr.Store size base offset src) = goes_on slot

-- where control goes from a slot
unfoldable pub control : List (Option Instr) → ℕ → Edges
control program slot = option_map_or (edges_of slot) (at program slot) no_edges
