-- Each form from its opcode, and each instruction from its fields.
use Rattle.std.proofs.Common.{◌≡◌, ℕ, ◌+◌, ◌*◌, ◌/◌, ◌%◌, Bool, true, false, [], ◌∷◌, Option, None, Some, refl, ◌∙◌, arith}
use Rattle.std.proofs.lemmas.Bool.{lt-ltb}
use Rattle.base.specs.Check.{first_failing}
use Rattle.bpf_isa.specs.declared.fields.Fields.{Fields}
use Rattle.bpf_isa.specs.declared.form.OpcodeForm.{OpcodeForm}
use Rattle.bpf_isa.specs.declared.form.OpcodeForm.TheVariants as form
use Rattle.bpf_isa.specs.declared.instr.Instr.{Instr}
use Rattle.bpf_isa.specs.declared.instr.Instr.TheVariants as instr
use Rattle.bpf_isa.specs.declared.instr.Source.TheVariants as source
use Rattle.bpf_isa.specs.declared.instr.Width.{Width}
use Rattle.bpf_isa.specs.declared.instr.Width.TheVariants as width
use Rattle.bpf_isa.specs.declared.instr.Operator.{Operator}
use Rattle.bpf_isa.specs.declared.instr.Operator.TheVariants as op
use Rattle.bpf_isa.specs.declared.instr.Condition.{Condition}
use Rattle.bpf_isa.specs.declared.instr.Condition.TheVariants as cond
use Rattle.bpf_isa.specs.declared.instr.SignExtension.{SignExtension}
use Rattle.bpf_isa.specs.declared.instr.SignExtension.TheVariants as extension
use Rattle.bpf_isa.specs.declared.instr.Order.TheVariants as order
use Rattle.bpf_isa.specs.declared.instr.OrderSize.{OrderSize}
use Rattle.bpf_isa.specs.declared.instr.OrderSize.TheVariants as bits
use Rattle.bpf_isa.specs.declared.instr.Size.TheVariants as size
use Rattle.bpf_isa.specs.declared.instr.SignedSize.TheVariants as signed
use Rattle.bpf_isa.specs.Table.{form_of, opcode_of, arithmetic_form, jump_form, memory_form, operator_of, condition_of, size_of, signed_size_of, operator_code, condition_code, source_bit, alu_class, jump_class}
use Rattle.bpf_isa.specs.Forms.{unsigned_form, as_told, shape}
use Rattle.bpf_isa.specs.Spelling.{fields_of, second_of, IsInRange, operator_offset, extension_width, extension_offset, order_immediate}
use Rattle.bpf_isa.specs.Faults.{checks, layout_of, is_one_of, offsets_of, move_offsets, register_offsets}
use Rattle.bpf_isa.specs.Decoding.{Follows}

-- an opcode by its class, its bit for the source and its code

alu_told : (w : Width) (c : ℕ) (register : Bool) → form_of (16 * c + source_bit register + alu_class w) ≡ arithmetic_form w c register
unfolding form_of
alu_told width.W32 c false =
    let n = 16 * c + 0 + 4 in
    let class : n % 8 ≡ 4 = omega arith in
    let code : n / 16 ≡ c = omega arith in
    let bit : n / 8 % 2 ≡ 0 = omega arith in
    rw (class, code, bit) refl
alu_told width.W32 c true =
    let n = 16 * c + 8 + 4 in
    let class : n % 8 ≡ 4 = omega arith in
    let code : n / 16 ≡ c = omega arith in
    let bit : n / 8 % 2 ≡ 1 = omega arith in
    rw (class, code, bit) refl
alu_told width.W64 c false =
    let n = 16 * c + 0 + 7 in
    let class : n % 8 ≡ 7 = omega arith in
    let code : n / 16 ≡ c = omega arith in
    let bit : n / 8 % 2 ≡ 0 = omega arith in
    rw (class, code, bit) refl
alu_told width.W64 c true =
    let n = 16 * c + 8 + 7 in
    let class : n % 8 ≡ 7 = omega arith in
    let code : n / 16 ≡ c = omega arith in
    let bit : n / 8 % 2 ≡ 1 = omega arith in
    rw (class, code, bit) refl

jmp_told : (w : Width) (c : ℕ) (register : Bool) → form_of (16 * c + source_bit register + jump_class w) ≡ jump_form w c register
unfolding form_of
jmp_told width.W32 c false =
    let n = 16 * c + 0 + 6 in
    let class : n % 8 ≡ 6 = omega arith in
    let code : n / 16 ≡ c = omega arith in
    let bit : n / 8 % 2 ≡ 0 = omega arith in
    rw (class, code, bit) refl
jmp_told width.W32 c true =
    let n = 16 * c + 8 + 6 in
    let class : n % 8 ≡ 6 = omega arith in
    let code : n / 16 ≡ c = omega arith in
    let bit : n / 8 % 2 ≡ 1 = omega arith in
    rw (class, code, bit) refl
jmp_told width.W64 c false =
    let n = 16 * c + 0 + 5 in
    let class : n % 8 ≡ 5 = omega arith in
    let code : n / 16 ≡ c = omega arith in
    let bit : n / 8 % 2 ≡ 0 = omega arith in
    rw (class, code, bit) refl
jmp_told width.W64 c true =
    let n = 16 * c + 8 + 5 in
    let class : n % 8 ≡ 5 = omega arith in
    let code : n / 16 ≡ c = omega arith in
    let bit : n / 8 % 2 ≡ 1 = omega arith in
    rw (class, code, bit) refl

-- A last case stands for each constructor that is left, and is checked at each.

operator_told : (w : Width) (register : Bool) (o : Operator) → arithmetic_form w (operator_code o) register ≡ Some (form.Arithmetic w (unsigned_form o) register)
unfolding arithmetic_form operator_of
operator_told w register op.Add = refl
operator_told w register _ = refl

condition_told : (w : Width) (register : Bool) (c : Condition) → jump_form w (condition_code c) register ≡ Some (form.Branch w c register)
unfolding jump_form condition_of
condition_told w register cond.Eq = refl
condition_told w register _ = refl

-- the opcode of each form tells that form
pub told : (f : OpcodeForm) → form_of (opcode_of f) ≡ Some (as_told f)
unfolding form_of opcode_of arithmetic_form jump_form memory_form operator_of condition_of size_of signed_size_of
told (form.Arithmetic w o register) = alu_told w (operator_code o) register ∙ operator_told w register o
told (form.Branch w c register) = jmp_told w (condition_code c) register ∙ condition_told w register c
told (form.Negate width.W32) = refl
told (form.Negate width.W64) = refl
told (form.ByteOrder order.Little) = refl
told (form.ByteOrder _) = refl
told (form.Load size.Byte) = refl
told (form.Load _) = refl
told (form.LoadSigned signed.Byte) = refl
told (form.LoadSigned _) = refl
told (form.StoreImmediate size.Byte) = refl
told (form.StoreImmediate _) = refl
told (form.Store size.Byte) = refl
told (form.Store _) = refl
told form.Jump = refl
told _ = refl

-- the opcode of an instruction tells its form
pub shape_told : (i : Instr) → form_of (fields_of i).opcode ≡ Some (shape i)
unfolding fields_of
shape_told (instr.Arithmetic w o dst (source.Immediate n)) = told (form.Arithmetic w o false)
shape_told (instr.Arithmetic w o dst (source.Register src)) = told (form.Arithmetic w o true)
shape_told (instr.Negate w dst) = told (form.Negate w)
shape_told (instr.SignExtend e dst src) = told (form.Arithmetic (extension_width e) op.Mov true)
shape_told (instr.ByteOrder o size dst) = told (form.ByteOrder o)
shape_told (instr.Jump offset) = told form.Jump
shape_told (instr.LongJump offset) = told form.LongJump
shape_told (instr.Branch w c dst (source.Immediate n) offset) = told (form.Branch w c false)
shape_told (instr.Branch w c dst (source.Register src) offset) = told (form.Branch w c true)
shape_told (instr.CallHelper number) = told form.Call
shape_told (instr.CallLocal distance) = told form.Call
shape_told instr.Exit = told form.Exit
shape_told (instr.Load size dst base offset) = told (form.Load size)
shape_told (instr.LoadSigned size dst base offset) = told (form.LoadSigned size)
shape_told (instr.StoreImmediate size base offset n) = told (form.StoreImmediate size)
shape_told (instr.Store size base offset src) = told (form.Store size)
shape_told (instr.LoadImmediate dst value) = told form.LoadImmediate

-- An instruction passes the tests of its form.

offset_known : (o : Operator) → is_one_of (offsets_of (unsigned_form o)) (operator_offset o) ≡ true
offset_known op.Add = refl
offset_known _ = refl

move_known : (w : Width) → is_one_of (move_offsets w) 0 ≡ true
move_known width.W32 = refl
move_known width.W64 = refl

register_offset_known : (w : Width) (o : Operator) → is_one_of (register_offsets w (unsigned_form o)) (operator_offset o) ≡ true
register_offset_known w op.Mov = move_known w
register_offset_known w _ = refl

extension_known : (e : SignExtension) → is_one_of (move_offsets (extension_width e)) (extension_offset e) ≡ true
extension_known extension.From8To64 = refl
extension_known _ = refl

size_known : (s : OrderSize) → is_one_of (16 ∷ 32 ∷ 64 ∷ []) (order_immediate s) ≡ true
size_known bits.Bits16 = refl
size_known _ = refl

-- the fields of an instruction in range pass all checks of its form
pub passes : (i : Instr) (next : Option Fields) → IsInRange i → Follows (second_of i) next → first_failing (checks (shape i) (fields_of i) next) ≡ None
unfolding checks layout_of fields_of IsInRange
passes (instr.Arithmetic w o dst (source.Immediate n)) next range there = rw (lt-ltb dst 11 range.0, offset_known o) refl
passes (instr.Arithmetic w o dst (source.Register src)) next range there = rw (lt-ltb dst 11 range.0, lt-ltb src 11 range.1, register_offset_known w o) refl
passes (instr.Negate w dst) next range there = rw (lt-ltb dst 11 range) refl
passes (instr.SignExtend e dst src) next range there = rw (lt-ltb dst 11 range.0, lt-ltb src 11 range.1, extension_known e) refl
passes (instr.ByteOrder o size dst) next range there = rw (lt-ltb dst 11 range, size_known size) refl
passes (instr.Jump offset) next range there = refl
passes (instr.LongJump offset) next range there = refl
passes (instr.Branch w c dst (source.Immediate n) offset) next range there = rw (lt-ltb dst 11 range.0) refl
passes (instr.Branch w c dst (source.Register src) offset) next range there = rw (lt-ltb dst 11 range.0, lt-ltb src 11 range.1) refl
passes (instr.CallHelper number) next range there = refl
passes (instr.CallLocal distance) next range there = refl
passes instr.Exit next range there = refl
passes (instr.Load size dst base offset) next range there = rw (lt-ltb dst 11 range.0, lt-ltb base 11 range.1) refl
passes (instr.LoadSigned size dst base offset) next range there = rw (lt-ltb dst 11 range.0, lt-ltb base 11 range.1) refl
passes (instr.StoreImmediate size base offset n) next range there = rw (lt-ltb base 11 range.0) refl
passes (instr.Store size base offset src) next range there = rw (lt-ltb base 11 range.0, lt-ltb src 11 range.2) refl
passes (instr.LoadImmediate dst value) next range there = rw (lt-ltb dst 11 range.0, there) refl
