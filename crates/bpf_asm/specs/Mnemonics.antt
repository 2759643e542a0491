-- The names of instructions (docs/ASSEMBLY.md, Instructions; RFC 9669, sections 4 and 5).
use Rattle.std.specs.Prelude.{ℕ, List, [], ◌∷◌, ◌++◌, Option, map, codes, bytes_eq}
use Rattle.std.specs.List.{find, flat_map}
use Rattle.bpf_isa.specs.declared.instr.Instr.{Instr}
use Rattle.bpf_isa.specs.declared.instr.Instr.TheVariants as instr
use Rattle.bpf_isa.specs.declared.instr.Width.{Width}
use Rattle.bpf_isa.specs.declared.instr.Width.TheVariants as width
use Rattle.bpf_isa.specs.declared.instr.Operator.{Operator}
use Rattle.bpf_isa.specs.declared.instr.Operator.TheVariants as op
use Rattle.bpf_isa.specs.declared.instr.SignExtension.{SignExtension}
use Rattle.bpf_isa.specs.declared.instr.SignExtension.TheVariants as extension
use Rattle.bpf_isa.specs.declared.instr.Order.{Order}
use Rattle.bpf_isa.specs.declared.instr.Order.TheVariants as order
use Rattle.bpf_isa.specs.declared.instr.OrderSize.{OrderSize}
use Rattle.bpf_isa.specs.declared.instr.OrderSize.TheVariants as bits
use Rattle.bpf_isa.specs.declared.instr.Condition.{Condition}
use Rattle.bpf_isa.specs.declared.instr.Condition.TheVariants as cond
use Rattle.bpf_isa.specs.declared.instr.Size.{Size}
use Rattle.bpf_isa.specs.declared.instr.Size.TheVariants as size
use Rattle.bpf_isa.specs.declared.instr.SignedSize.{SignedSize}
use Rattle.bpf_isa.specs.declared.instr.SignedSize.TheVariants as signed
use Rattle.bpf_asm.specs.declared.mnemonic.Mnemonic.{Mnemonic}
use Rattle.bpf_asm.specs.declared.mnemonic.Mnemonic.TheVariants as kind

abbrev pub operator_name : Operator → List ℕ
operator_name op.Add = codes "add"
operator_name op.Sub = codes "sub"
operator_name op.Mul = codes "mul"
operator_name op.Div = codes "div"
operator_name op.SignedDiv = codes "sdiv"
operator_name op.Or = codes "or"
operator_name op.And = codes "and"
operator_name op.Lsh = codes "lsh"
operator_name op.Rsh = codes "rsh"
operator_name op.Mod = codes "mod"
operator_name op.SignedMod = codes "smod"
operator_name op.Xor = codes "xor"
operator_name op.Mov = codes "mov"
operator_name op.Arsh = codes "arsh"

abbrev pub condition_name : Condition → List ℕ
condition_name cond.Eq = codes "jeq"
condition_name cond.Gt = codes "jgt"
condition_name cond.Ge = codes "jge"
condition_name cond.Set = codes "jset"
condition_name cond.Ne = codes "jne"
condition_name cond.SignedGt = codes "jsgt"
condition_name cond.SignedGe = codes "jsge"
condition_name cond.Lt = codes "jlt"
condition_name cond.Le = codes "jle"
condition_name cond.SignedLt = codes "jslt"
condition_name cond.SignedLe = codes "jsle"

abbrev pub extension_name : SignExtension → List ℕ
extension_name extension.From8To64 = codes "movsx8to64"
extension_name extension.From16To64 = codes "movsx16to64"
extension_name extension.From32To64 = codes "movsx32to64"
extension_name extension.From8To32 = codes "movsx8to32"
extension_name extension.From16To32 = codes "movsx16to32"

abbrev pub order_name : Order → List ℕ
order_name order.Little = codes "le"
order_name order.Big = codes "be"
order_name order.Swap = codes "swap"

abbrev pub order_size_name : OrderSize → List ℕ
order_size_name bits.Bits16 = codes "16"
order_size_name bits.Bits32 = codes "32"
order_size_name bits.Bits64 = codes "64"

abbrev pub size_name : Size → List ℕ
size_name size.Byte = codes "b"
size_name size.Half = codes "h"
size_name size.Word = codes "w"
size_name size.Double = codes "dw"

abbrev pub signed_size_name : SignedSize → List ℕ
signed_size_name signed.Byte = codes "b"
signed_size_name signed.Half = codes "h"
signed_size_name signed.Word = codes "w"

-- the width of arithmetic, always written
abbrev pub width_name : Width → List ℕ
width_name width.W64 = codes "64"
width_name width.W32 = codes "32"

-- the width of a branch, written where it is 32
abbrev pub branch_width_name : Width → List ℕ
branch_width_name width.W64 = []
branch_width_name width.W32 = codes "32"

-- the name of an instruction
unfoldable pub name_of : Mnemonic → List ℕ
name_of (kind.Arithmetic w o) = operator_name o ++ width_name w
name_of (kind.Negate w) = codes "neg" ++ width_name w
name_of (kind.SignExtend e) = extension_name e
name_of (kind.ByteOrder o s) = order_name o ++ order_size_name s
name_of kind.Jump = codes "ja"
name_of kind.LongJump = codes "ja32"
name_of (kind.Branch w c) = condition_name c ++ branch_width_name w
name_of kind.CallHelper = codes "call"
name_of kind.CallLocal = codes "callf"
name_of kind.Exit = codes "exit"
name_of (kind.Load s) = codes "ldx" ++ size_name s
name_of (kind.LoadSigned s) = codes "ldxs" ++ signed_size_name s
name_of (kind.StoreImmediate s) = codes "st" ++ size_name s
name_of (kind.Store s) = codes "stx" ++ size_name s
name_of kind.LoadImmediate = codes "lddw"

abbrev pub widths : List Width
widths = width.W64 ∷ width.W32 ∷ []

abbrev pub operators : List Operator
operators = op.Add ∷ op.Sub ∷ op.Mul ∷ op.Div ∷ op.SignedDiv ∷ op.Or ∷ op.And ∷ op.Lsh ∷ op.Rsh ∷ op.Mod ∷ op.SignedMod ∷ op.Xor ∷ op.Mov ∷ op.Arsh ∷ []

abbrev pub conditions : List Condition
conditions = cond.Eq ∷ cond.Gt ∷ cond.Ge ∷ cond.Set ∷ cond.Ne ∷ cond.SignedGt ∷ cond.SignedGe ∷ cond.Lt ∷ cond.Le ∷ cond.SignedLt ∷ cond.SignedLe ∷ []

abbrev pub extensions : List SignExtension
extensions = extension.From8To64 ∷ extension.From16To64 ∷ extension.From32To64 ∷ extension.From8To32 ∷ extension.From16To32 ∷ []

abbrev pub orders : List Order
orders = order.Little ∷ order.Big ∷ order.Swap ∷ []

abbrev pub order_sizes : List OrderSize
order_sizes = bits.Bits16 ∷ bits.Bits32 ∷ bits.Bits64 ∷ []

abbrev pub sizes : List Size
sizes = size.Byte ∷ size.Half ∷ size.Word ∷ size.Double ∷ []

abbrev pub signed_sizes : List SignedSize
signed_sizes = signed.Byte ∷ signed.Half ∷ signed.Word ∷ []

-- the instructions of the language
unfoldable pub mnemonics : List Mnemonic
mnemonics =
    flat_map (λ w. map (kind.Arithmetic w) operators) widths
    ++ map kind.Negate widths
    ++ map kind.SignExtend extensions
    ++ flat_map (λ o. map (kind.ByteOrder o) order_sizes) orders
    ++ (kind.Jump ∷ kind.LongJump ∷ [])
    ++ flat_map (λ w. map (kind.Branch w) conditions) widths
    ++ (kind.CallHelper ∷ kind.CallLocal ∷ kind.Exit ∷ [])
    ++ map kind.Load sizes
    ++ map kind.LoadSigned signed_sizes
    ++ map kind.StoreImmediate sizes
    ++ map kind.Store sizes
    ++ (kind.LoadImmediate ∷ [])

-- the instruction that a word names
unfoldable pub mnemonic_of : List ℕ → Option Mnemonic
mnemonic_of word = find (λ m. bytes_eq (name_of m) word) mnemonics

-- what names an instruction
abbrev pub mnemonic : Instr → Mnemonic
mnemonic (instr.Arithmetic w o dst source) = kind.Arithmetic w o
mnemonic (instr.Negate w dst) = kind.Negate w
mnemonic (instr.SignExtend e dst src) = kind.SignExtend e
mnemonic (instr.ByteOrder o s dst) = kind.ByteOrder o s
mnemonic (instr.Jump offset) = kind.Jump
mnemonic (instr.LongJump offset) = kind.LongJump
mnemonic (instr.Branch w c dst source offset) = kind.Branch w c
mnemonic (instr.CallHelper number) = kind.CallHelper
mnemonic (instr.CallLocal offset) = kind.CallLocal
mnemonic instr.Exit = kind.Exit
mnemonic (instr.Load s dst base offset) = kind.Load s
mnemonic (instr.LoadSigned s dst base offset) = kind.LoadSigned s
mnemonic (instr.StoreImmediate s base offset n) = kind.StoreImmediate s
mnemonic (instr.Store s base offset src) = kind.Store s
mnemonic (instr.LoadImmediate dst value) = kind.LoadImmediate
