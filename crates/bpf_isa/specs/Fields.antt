-- The five fields of a slot of eight bytes (RFC 9669, section 3.1; docs/MACHINE.md, Encoding).
use Rattle.std.specs.Prelude.{ℕ, ◌+◌, ◌*◌, ◌/◌, ◌%◌, nat_lt, if◌then◌else◌, List, ◌∷◌, ◌++◌, length, slice_index, Option, None, Some}
use Rattle.base.specs.Numbers.{number_at, number_bytes}
use Rattle.bpf_isa.specs.declared.fields.Fields.{Fields}

abbrev pub fields : ℕ → ℕ → ℕ → ℕ → ℕ → Fields
fields opcode dst src offset immediate =
    record { opcode = opcode; dst = dst; src = src; offset = offset; immediate = immediate }

-- the bytes: the opcode, the registers (dst in the low four bits), the offset, the immediate
unfoldable pub field_bytes : Fields → List ℕ
field_bytes f = f.opcode ∷ (f.dst + 16 * f.src) ∷ (number_bytes 2 f.offset ++ number_bytes 4 f.immediate)

-- the fields that the bytes of a slot hold
unfoldable pub fields_at : List ℕ → ℕ → Fields
fields_at bytes slot =
    fields
    (slice_index bytes (8 * slot))
    (slice_index bytes (8 * slot + 1) % 16)
    (slice_index bytes (8 * slot + 1) / 16)
    (number_at 2 (8 * slot + 2) bytes)
    (number_at 4 (8 * slot + 4) bytes)

-- the same, where there is such a slot
unfoldable pub slot_at : List ℕ → ℕ → Option Fields
slot_at bytes slot = if nat_lt slot (length bytes / 8) then Some (fields_at bytes slot) else None
