-- The opcodes (RFC 9669, sections 3 to 5; docs/MACHINE.md, Encoding).
use Rattle.std.specs.Prelude.{ℕ, ◌+◌, ◌*◌, ◌/◌, ◌%◌, ◌==◌, Bool, true, false, if◌then◌else◌, List, [], ◌∷◌, Option, None, Some, option_map}
use Rattle.std.specs.Option.{option_map_or}
use Rattle.bpf_isa.specs.declared.form.OpcodeForm.{OpcodeForm}
use Rattle.bpf_isa.specs.declared.form.OpcodeForm.TheVariants as form
use Rattle.bpf_isa.specs.declared.instr.Width.{Width}
use Rattle.bpf_isa.specs.declared.instr.Width.TheVariants as width
use Rattle.bpf_isa.specs.declared.instr.Operator.{Operator}
use Rattle.bpf_isa.specs.declared.instr.Operator.TheVariants as op
use Rattle.bpf_isa.specs.declared.instr.Condition.{Condition}
use Rattle.bpf_isa.specs.declared.instr.Condition.TheVariants as cond
use Rattle.bpf_isa.specs.declared.instr.Order.{Order}
use Rattle.bpf_isa.specs.declared.instr.Order.TheVariants as order
use Rattle.bpf_isa.specs.declared.instr.Size.{Size}
use Rattle.bpf_isa.specs.declared.instr.Size.TheVariants as size
use Rattle.bpf_isa.specs.declared.instr.SignedSize.{SignedSize}
use Rattle.bpf_isa.specs.declared.instr.SignedSize.TheVariants as signed

-- The codes of the standard's tables, which are the high bits of an opcode.

abbrev pub operator_code : Operator → ℕ
operator_code op.Add = 0
operator_code op.Sub = 1
operator_code op.Mul = 2
operator_code op.Div = 3
operator_code op.SignedDiv = 3
operator_code op.Or = 4
operator_code op.And = 5
operator_code op.Lsh = 6
operator_code op.Rsh = 7
operator_code op.Mod = 9
operator_code op.SignedMod = 9
operator_code op.Xor = 10
operator_code op.Mov = 11
operator_code op.Arsh = 12

abbrev pub condition_code : Condition → ℕ
condition_code cond.Eq = 1
condition_code cond.Gt = 2
condition_code cond.Ge = 3
condition_code cond.Set = 4
condition_code cond.Ne = 5
condition_code cond.SignedGt = 6
condition_code cond.SignedGe = 7
condition_code cond.Lt = 10
condition_code cond.Le = 11
condition_code cond.SignedLt = 12
condition_code cond.SignedLe = 13

abbrev pub size_code : Size → ℕ
size_code size.Word = 0
size_code size.Half = 1
size_code size.Byte = 2
size_code size.Double = 3

abbrev pub signed_size_code : SignedSize → ℕ
signed_size_code signed.Word = 0
signed_size_code signed.Half = 1
signed_size_code signed.Byte = 2

-- Looking up in those tables.

-- the first member of a list that has this code
abbrev pub first_with : {X : Type 0} → (X → ℕ) → ℕ → List X → Option X
first_with code n [] = None
first_with code n (x ∷ xs) = if n == code x then Some x else first_with code n xs

unfoldable pub operator_of : ℕ → Option Operator
operator_of n = first_with operator_code n (op.Add ∷ op.Sub ∷ op.Mul ∷ op.Div ∷ op.Or ∷ op.And ∷ op.Lsh ∷ op.Rsh ∷ op.Mod ∷ op.Xor ∷ op.Mov ∷ op.Arsh ∷ [])

unfoldable pub condition_of : ℕ → Option Condition
condition_of n = first_with condition_code n (cond.Eq ∷ cond.Gt ∷ cond.Ge ∷ cond.Set ∷ cond.Ne ∷ cond.SignedGt ∷ cond.SignedGe ∷ cond.Lt ∷ cond.Le ∷ cond.SignedLt ∷ cond.SignedLe ∷ [])

unfoldable pub size_of : ℕ → Option Size
size_of n = first_with size_code n (size.Word ∷ size.Half ∷ size.Byte ∷ size.Double ∷ [])

unfoldable pub signed_size_of : ℕ → Option SignedSize
signed_size_of n = first_with signed_size_code n (signed.Word ∷ signed.Half ∷ signed.Byte ∷ [])

-- the byte swaps: class ALU with both source bits, class ALU64 with source bit 0
abbrev pub order_form : Width → Bool → Option OpcodeForm
order_form width.W32 false = Some (form.ByteOrder order.Little)
order_form width.W32 true = Some (form.ByteOrder order.Big)
order_form width.W64 false = Some (form.ByteOrder order.Swap)
order_form width.W64 true = None

-- classes ALU and ALU64: the width, the code, whether the source is a register
unfoldable pub arithmetic_form : Width → ℕ → Bool → Option OpcodeForm
arithmetic_form w code register =
    if code == 8 then (if register then None else Some (form.Negate w))
    else if code == 13 then order_form w register
    else option_map (λ o. form.Arithmetic w o register) (operator_of code)

-- the jumps that are no branches: class JMP with JA, CALL, EXIT, class JMP32 with JA
abbrev pub other_jump : Width → ℕ → Option OpcodeForm
other_jump width.W64 code =
    if code == 0 then Some form.Jump
    else if code == 8 then Some form.Call
    else if code == 9 then Some form.Exit
    else None
other_jump width.W32 code = if code == 0 then Some form.LongJump else None

-- classes JMP (64 bits) and JMP32
unfoldable pub jump_form : Width → ℕ → Bool → Option OpcodeForm
jump_form w code register =
    option_map_or (λ c. Some (form.Branch w c register)) (condition_of code) (if register then None else other_jump w code)

-- classes LDX, ST and STX, mode MEM
abbrev pub move_form : ℕ → ℕ → Option OpcodeForm
move_form class size =
    if class == 1 then option_map form.Load (size_of size)
    else if class == 2 then option_map form.StoreImmediate (size_of size)
    else option_map form.Store (size_of size)

-- classes LD, LDX, ST and STX: the class, the mode (IMM 0, MEM 3, MEMSX 4), the code of the size
unfoldable pub memory_form : ℕ → ℕ → ℕ → Option OpcodeForm
memory_form class mode size =
    if class == 0 then (if mode == 0 then (if size == 3 then Some form.LoadImmediate else None) else None)
    else if mode == 3 then move_form class size
    else if mode == 4 then (if class == 1 then option_map form.LoadSigned (signed_size_of size) else None)
    else None

-- what an opcode says: the class is its low three bits, the source its bit 3, the code its high four bits
unfoldable pub form_of : ℕ → Option OpcodeForm
form_of n =
    if n % 8 == 7 then arithmetic_form width.W64 (n / 16) (n / 8 % 2 == 1)
    else if n % 8 == 4 then arithmetic_form width.W32 (n / 16) (n / 8 % 2 == 1)
    else if n % 8 == 5 then jump_form width.W64 (n / 16) (n / 8 % 2 == 1)
    else if n % 8 == 6 then jump_form width.W32 (n / 16) (n / 8 % 2 == 1)
    else memory_form (n % 8) (n / 32) (n / 8 % 4)

-- And the other way: the opcode of each form.

abbrev pub alu_class : Width → ℕ
alu_class width.W32 = 4
alu_class width.W64 = 7

abbrev pub jump_class : Width → ℕ
jump_class width.W32 = 6
jump_class width.W64 = 5

-- bit 3: the source is a register
abbrev pub source_bit : Bool → ℕ
source_bit false = 0
source_bit true = 8

abbrev pub order_opcode : Order → ℕ
order_opcode order.Little = 0xd4
order_opcode order.Big = 0xdc
order_opcode order.Swap = 0xd7

unfoldable pub opcode_of : OpcodeForm → ℕ
opcode_of (form.Arithmetic w o register) = 16 * operator_code o + source_bit register + alu_class w
opcode_of (form.Negate w) = 0x80 + alu_class w
opcode_of (form.ByteOrder o) = order_opcode o
opcode_of form.Jump = 0x05
opcode_of form.LongJump = 0x06
opcode_of (form.Branch w c register) = 16 * condition_code c + source_bit register + jump_class w
opcode_of form.Call = 0x85
opcode_of form.Exit = 0x95
opcode_of (form.Load s) = 0x61 + 8 * size_code s
opcode_of (form.LoadSigned s) = 0x81 + 8 * signed_size_code s
opcode_of (form.StoreImmediate s) = 0x62 + 8 * size_code s
opcode_of (form.Store s) = 0x63 + 8 * size_code s
opcode_of form.LoadImmediate = 0x18
