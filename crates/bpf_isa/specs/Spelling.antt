-- How instructions and programs are spelled (RFC 9669, sections 3 to 5; docs/MACHINE.md, Encoding).
use Rattle.std.specs.Prelude.{ℕ, ◌/◌, ◌%◌, ◌^◌, ◌<◌, ℤ, true, false, List, [], ◌∷◌}
use Rattle.std.specs.Int.{cast_unsigned, w16, w32}
use Rattle.std.specs.Int.RustNames.{FitsSigned}
use Rattle.bpf_isa.specs.declared.form.OpcodeForm.TheVariants as form
use Rattle.bpf_isa.specs.declared.fields.Fields.{Fields}
use Rattle.bpf_isa.specs.declared.instr.Instr.{Instr}
use Rattle.bpf_isa.specs.declared.instr.Instr.TheVariants as instr
use Rattle.bpf_isa.specs.declared.instr.Source.{Source}
use Rattle.bpf_isa.specs.declared.instr.Source.TheVariants as source
use Rattle.bpf_isa.specs.declared.instr.Width.{Width}
use Rattle.bpf_isa.specs.declared.instr.Width.TheVariants as width
use Rattle.bpf_isa.specs.declared.instr.Operator.{Operator}
use Rattle.bpf_isa.specs.declared.instr.Operator.TheVariants as op
use Rattle.bpf_isa.specs.declared.instr.SignExtension.{SignExtension}
use Rattle.bpf_isa.specs.declared.instr.SignExtension.TheVariants as extension
use Rattle.bpf_isa.specs.declared.instr.OrderSize.{OrderSize}
use Rattle.bpf_isa.specs.declared.instr.OrderSize.TheVariants as bits
use Rattle.bpf_isa.specs.Table.{opcode_of}
use Rattle.bpf_isa.specs.Fields.{fields}

-- the offset of a division or modulo tells the signed one
abbrev pub operator_offset : Operator → ℕ
operator_offset op.SignedDiv = 1
operator_offset op.SignedMod = 1
operator_offset _ = 0

abbrev pub extension_width : SignExtension → Width
extension_width extension.From8To64 = width.W64
extension_width extension.From16To64 = width.W64
extension_width extension.From32To64 = width.W64
extension_width extension.From8To32 = width.W32
extension_width extension.From16To32 = width.W32

-- the offset of a move that extends the sign
abbrev pub extension_offset : SignExtension → ℕ
extension_offset extension.From8To64 = 8
extension_offset extension.From16To64 = 16
extension_offset extension.From32To64 = 32
extension_offset extension.From8To32 = 8
extension_offset extension.From16To32 = 16

-- the immediate of a byte swap
abbrev pub order_immediate : OrderSize → ℕ
order_immediate bits.Bits16 = 16
order_immediate bits.Bits32 = 32
order_immediate bits.Bits64 = 64

-- a signed number as the bits of its field
abbrev pub bits16 : ℤ → ℕ
bits16 n = cast_unsigned w16 n

abbrev pub bits32 : ℤ → ℕ
bits32 n = cast_unsigned w32 n

-- the fields of an instruction, of its first slot where it has two
unfoldable pub fields_of : Instr → Fields
fields_of (instr.Arithmetic w o dst (source.Immediate n)) = fields (opcode_of (form.Arithmetic w o false)) dst 0 (operator_offset o) (bits32 n)
fields_of (instr.Arithmetic w o dst (source.Register src)) = fields (opcode_of (form.Arithmetic w o true)) dst src (operator_offset o) 0
fields_of (instr.Negate w dst) = fields (opcode_of (form.Negate w)) dst 0 0 0
fields_of (instr.SignExtend e dst src) = fields (opcode_of (form.Arithmetic (extension_width e) op.Mov true)) dst src (extension_offset e) 0
fields_of (instr.ByteOrder o size dst) = fields (opcode_of (form.ByteOrder o)) dst 0 0 (order_immediate size)
fields_of (instr.Jump offset) = fields (opcode_of form.Jump) 0 0 (bits16 offset) 0
fields_of (instr.LongJump offset) = fields (opcode_of form.LongJump) 0 0 0 (bits32 offset)
fields_of (instr.Branch w c dst (source.Immediate n) offset) = fields (opcode_of (form.Branch w c false)) dst 0 (bits16 offset) (bits32 n)
fields_of (instr.Branch w c dst (source.Register src) offset) = fields (opcode_of (form.Branch w c true)) dst src (bits16 offset) 0
fields_of (instr.CallHelper number) = fields (opcode_of form.Call) 0 0 0 (bits32 number)
fields_of (instr.CallLocal distance) = fields (opcode_of form.Call) 0 1 0 (bits32 distance)
fields_of instr.Exit = fields (opcode_of form.Exit) 0 0 0 0
fields_of (instr.Load size dst base offset) = fields (opcode_of (form.Load size)) dst base (bits16 offset) 0
fields_of (instr.LoadSigned size dst base offset) = fields (opcode_of (form.LoadSigned size)) dst base (bits16 offset) 0
fields_of (instr.StoreImmediate size base offset n) = fields (opcode_of (form.StoreImmediate size)) base 0 (bits16 offset) (bits32 n)
fields_of (instr.Store size base offset src) = fields (opcode_of (form.Store size)) base src (bits16 offset) 0
fields_of (instr.LoadImmediate dst value) = fields (opcode_of form.LoadImmediate) dst 0 0 (value % 2 ^ 32)

-- the fields of the second slot, where there is one: the high half of a 64-bit immediate
abbrev pub second_of : Instr → List Fields
second_of (instr.LoadImmediate dst value) = fields 0 0 0 0 (value / 2 ^ 32) ∷ []
second_of _ = []

abbrev pub IsSourceInRange : Source → Type 0
IsSourceInRange (source.Immediate n) = FitsSigned w32 n
IsSourceInRange (source.Register src) = src < 11

-- the operands are in the ranges of their types
unfoldable pub IsInRange : Instr → Type 0
IsInRange (instr.Arithmetic w o dst from) = (dst < 11) × IsSourceInRange from
IsInRange (instr.Negate w dst) = dst < 11
IsInRange (instr.SignExtend e dst src) = (dst < 11) × (src < 11)
IsInRange (instr.ByteOrder o size dst) = dst < 11
IsInRange (instr.Jump offset) = FitsSigned w16 offset
IsInRange (instr.LongJump offset) = FitsSigned w32 offset
IsInRange (instr.Branch w c dst from offset) = (dst < 11) × IsSourceInRange from × FitsSigned w16 offset
IsInRange (instr.CallHelper number) = FitsSigned w32 number
IsInRange (instr.CallLocal distance) = FitsSigned w32 distance
IsInRange instr.Exit = Unit {0}
IsInRange (instr.Load size dst base offset) = (dst < 11) × (base < 11) × FitsSigned w16 offset
IsInRange (instr.LoadSigned size dst base offset) = (dst < 11) × (base < 11) × FitsSigned w16 offset
IsInRange (instr.StoreImmediate size base offset n) = (base < 11) × FitsSigned w16 offset × FitsSigned w32 n
IsInRange (instr.Store size base offset src) = (base < 11) × FitsSigned w16 offset × (src < 11)
IsInRange (instr.LoadImmediate dst value) = (dst < 11) × (value < 2 ^ 64)
