-- The slots of a program by their numbers (RFC 9669, section 4.3; docs/MACHINE.md, Encoding).
use Rattle.std.specs.Prelude.{ℕ, ◌+◌, ℤ, pos, ◌+ℤ◌, List, Option, slice_get}
use Rattle.std.specs.Option.{option_and_then}
use Rattle.std.specs.Int.{cast_unsigned, w64}
use Rattle.bpf_isa.specs.declared.instr.Instr.{Instr}

-- the instruction that begins at a slot
abbrev pub at : List (Option Instr) → ℕ → Option Instr
at program slot = option_and_then (λ i. i) (slice_get program slot)

-- The slot at a distance, in slots, from the one after a jump or a local call. One before the first slot is a number
-- of which no program has a slot.
abbrev pub target_slot : ℕ → ℤ → ℕ
target_slot slot distance = cast_unsigned w64 (pos (slot + 1) +ℤ distance)
