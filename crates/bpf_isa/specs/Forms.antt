-- The form of an instruction, and that the table of opcodes tells it (RFC 9669, sections 3 to 5).
use Rattle.std.specs.Prelude.{◌≡◌, ℕ, ◌<◌, true, false, Some}
use Rattle.bpf_isa.specs.declared.form.OpcodeForm.{OpcodeForm}
use Rattle.bpf_isa.specs.declared.form.OpcodeForm.TheVariants as form
use Rattle.bpf_isa.specs.declared.instr.Instr.{Instr}
use Rattle.bpf_isa.specs.declared.instr.Instr.TheVariants as instr
use Rattle.bpf_isa.specs.declared.instr.Source.TheVariants as source
use Rattle.bpf_isa.specs.declared.instr.Operator.{Operator}
use Rattle.bpf_isa.specs.declared.instr.Operator.TheVariants as op
use Rattle.bpf_isa.specs.Table.{form_of, opcode_of}
use Rattle.bpf_isa.specs.Spelling.{extension_width}

-- signed division and modulo share the opcode of the unsigned ones
abbrev pub unsigned_form : Operator → Operator
unsigned_form op.SignedDiv = op.Div
unsigned_form op.SignedMod = op.Mod
unsigned_form o = o

abbrev pub as_told : OpcodeForm → OpcodeForm
as_told (form.Arithmetic w o register) = form.Arithmetic w (unsigned_form o) register
as_told f = f

-- the form that the opcode of an instruction tells
abbrev pub shape : Instr → OpcodeForm
shape (instr.Arithmetic w o dst (source.Immediate n)) = form.Arithmetic w (unsigned_form o) false
shape (instr.Arithmetic w o dst (source.Register src)) = form.Arithmetic w (unsigned_form o) true
shape (instr.Negate w dst) = form.Negate w
shape (instr.SignExtend e dst src) = form.Arithmetic (extension_width e) op.Mov true
shape (instr.ByteOrder o size dst) = form.ByteOrder o
shape (instr.Jump offset) = form.Jump
shape (instr.LongJump offset) = form.LongJump
shape (instr.Branch w c dst (source.Immediate n) offset) = form.Branch w c false
shape (instr.Branch w c dst (source.Register src) offset) = form.Branch w c true
shape (instr.CallHelper number) = form.Call
shape (instr.CallLocal distance) = form.Call
shape instr.Exit = form.Exit
shape (instr.Load size dst base offset) = form.Load size
shape (instr.LoadSigned size dst base offset) = form.LoadSigned size
shape (instr.StoreImmediate size base offset n) = form.StoreImmediate size
shape (instr.Store size base offset src) = form.Store size
shape (instr.LoadImmediate dst value) = form.LoadImmediate

-- the table is one: the opcode of each form tells that form, and what an opcode tells has that opcode
pub record IsOneTable : Type 0 where
  pub told : (f : OpcodeForm) → form_of (opcode_of f) ≡ Some (as_told f)
  pub has : (n : ℕ) (f : OpcodeForm) → n < 256 → form_of n ≡ Some f → opcode_of f ≡ n
