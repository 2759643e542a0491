-- The range that an arithmetic instruction makes of the ranges of its operands (docs/VERIFIER.md,
-- Results of arithmetic on numbers).
use Rattle.std.specs.Prelude.{ℕ, ◌+◌, ◌-◌, ◌/◌, ◌%◌, ◌^◌, ◌==◌, nat_lt, ◌&&◌, Bool, true, false, if◌then◌else◌, Option, None, Some}
use Rattle.bpf_isa.specs.declared.instr.Instr.{Instr}
use Rattle.bpf_isa.specs.declared.instr.Instr.TheVariants as instr
use Rattle.bpf_isa.specs.declared.instr.Width.{Width}
use Rattle.bpf_isa.specs.declared.instr.Width.TheVariants as width
use Rattle.bpf_isa.specs.declared.instr.Operator.{Operator}
use Rattle.bpf_isa.specs.declared.instr.Operator.TheVariants as op
use Rattle.bpf_isa.specs.declared.instr.SignExtension.{SignExtension}
use Rattle.bpf_isa.specs.declared.instr.SignExtension.TheVariants as extension
use Rattle.bpf_isa.specs.declared.instr.Order.{Order}
use Rattle.bpf_isa.specs.declared.instr.Order.TheVariants as order
use Rattle.bpf_isa.specs.declared.instr.OrderSize.{OrderSize}
use Rattle.bpf_isa.specs.declared.instr.OrderSize.TheVariants as bits
use Rattle.bpf_isa.specs.Spelling.{extension_width}
use Rattle.machine.specs.Arithmetic.{operator_value, sign_extension, in_order}
use Rattle.intervals.specs.Spans.{Span, span, only, is_constant}
use Rattle.intervals.specs.Operators.{most, full, in_table}

-- The part of a range that a width computes with. Numbers with one upper half keep their order in
-- the lower one.
unfoldable pub part_of_width : Width → Span → Span
part_of_width width.W32 x = if x.low / 2 ^ 32 == x.high / 2 ^ 32 then span (x.low % 2 ^ 32) (x.high % 2 ^ 32) else full (2 ^ 32 - 1)
part_of_width width.W64 x = x

-- the operators that are exact over constants
abbrev pub is_exact : Operator → Bool
is_exact op.SignedDiv = true
is_exact op.Or = true
is_exact op.And = true
is_exact op.SignedMod = true
is_exact op.Xor = true
is_exact op.Arsh = true
is_exact _ = false

-- the result of an operator over operands that are numbers of the width
unfoldable pub operator_result : Width → Operator → Span → Span → Span
operator_result w o x y =
    if is_exact o && (is_constant x && is_constant y) then only (operator_value w o x.low y.low) else in_table w o x y

unfoldable pub arithmetic_result : Width → Operator → Span → Span → Span
arithmetic_result w o x y = operator_result w o (part_of_width w x) (part_of_width w y)

-- the opposite is exact over constants
unfoldable pub opposite : Width → Span → Span
opposite w x = if is_constant x then only (operator_value w op.Sub 0 x.low) else full (most w)

unfoldable pub negated_result : Width → Span → Span
negated_result w x = opposite w (part_of_width w x)

-- the least number whose sign is set
abbrev pub sign_of : SignExtension → ℕ
sign_of extension.From8To64 = 2 ^ 7
sign_of extension.From16To64 = 2 ^ 15
sign_of extension.From32To64 = 2 ^ 31
sign_of extension.From8To32 = 2 ^ 7
sign_of extension.From16To32 = 2 ^ 15

unfoldable pub sign_extended : SignExtension → Span → Span
sign_extended e x =
    if is_constant x then only (sign_extension e x.low)
    else if nat_lt x.high (sign_of e) then x
    else full (most (extension_width e))

unfoldable pub extended_result : SignExtension → Span → Span
extended_result e x = sign_extended e (part_of_width (extension_width e) x)

-- the greatest number of that many bits
abbrev pub most_of : OrderSize → ℕ
most_of bits.Bits16 = 2 ^ 16 - 1
most_of bits.Bits32 = 2 ^ 32 - 1
most_of bits.Bits64 = 2 ^ 64 - 1

abbrev pub is_little : Order → Bool
is_little order.Little = true
is_little _ = false

-- a byte order is never cut, and exact over constants
unfoldable pub ordered_result : Order → OrderSize → Span → Span
ordered_result o size x =
    if is_constant x then only (in_order o size x.low)
    else if is_little o && nat_lt x.high (most_of size + 1) then x
    else full (most_of size)

abbrev pub is_arithmetic : Instr → Bool
is_arithmetic (instr.Arithmetic w o dst from) = true
is_arithmetic (instr.Negate w dst) = true
is_arithmetic (instr.SignExtend e dst src) = true
is_arithmetic (instr.ByteOrder o size dst) = true
is_arithmetic _ = false

-- The result for the ranges of dst and of the second operand. A move and a sign extension read only
-- the second, the opposite and a byte order only dst.
unfoldable pub result_of : Instr → Span → Span → Option Span
result_of (instr.Arithmetic w o dst from) x y = Some (arithmetic_result w o x y)
result_of (instr.Negate w dst) x y = Some (negated_result w x)
result_of (instr.SignExtend e dst src) x y = Some (extended_result e y)
result_of (instr.ByteOrder o size dst) x y = Some (ordered_result o size x)
result_of _ x y = None
