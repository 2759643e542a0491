-- The table of results (docs/VERIFIER.md, Results of arithmetic on numbers). In it m is the greatest
-- number of the width, half the least that is negative in it, and bits are its bits; x is the range
-- of the first operand, y that of the second.
use Rattle.std.specs.Prelude.{ℕ, ◌+◌, ◌-◌, ◌*◌, ◌/◌, ◌%◌, ◌^◌, ◌==◌, nat_lt, nat_le, ◌&&◌, if◌then◌else◌, min, max}
use Rattle.bpf_isa.specs.declared.instr.Width.{Width}
use Rattle.bpf_isa.specs.declared.instr.Operator.{Operator}
use Rattle.bpf_isa.specs.declared.instr.Operator.TheVariants as op
use Rattle.machine.specs.Arithmetic.{width_bits}
use Rattle.intervals.specs.Spans.{Span, span, only, is_constant}
use Rattle.intervals.specs.Rounding.{ceiling}

-- the greatest number of a width
abbrev pub most : Width → ℕ
most w = 2 ^ width_bits w - 1

-- the least number of a width that is negative as a signed one
abbrev pub half : Width → ℕ
half w = 2 ^ (width_bits w - 1)

-- all numbers up to m
abbrev pub full : ℕ → Span
full m = span 0 m

unfoldable pub sum_of : ℕ → Span → Span → Span
sum_of m x y =
    if nat_le (x.high + y.high) m then span (x.low + y.low) (x.high + y.high)
    else if nat_lt m (x.low + y.low) then span (x.low + y.low - (m + 1)) (x.high + y.high - (m + 1))
    else full m

unfoldable pub difference_of : ℕ → Span → Span → Span
difference_of m x y =
    if nat_le y.high x.low then span (x.low - y.high) (x.high - y.low)
    else if nat_lt x.high y.low then span (x.low + (m + 1) - y.high) (x.high + (m + 1) - y.low)
    else full m

unfoldable pub product_of : ℕ → Span → Span → Span
product_of m x y = if nat_le (x.high * y.high) m then span (x.low * y.low) (x.high * y.high) else full m

-- a quotient by zero is zero
unfoldable pub quotient_of : Span → Span → Span
quotient_of x y =
    if is_constant y then (if y.low == 0 then only 0 else span (x.low / y.low) (x.high / y.low))
    else span 0 x.high

-- a remainder by zero is the first operand
unfoldable pub remaining : Span → Span → Span
remaining x y =
    if is_constant y then (if y.low == 0 then x else if nat_lt x.high y.low then x else span 0 (y.low - 1))
    else if y.low == 0 then span 0 x.high
    else span 0 (min x.high (y.high - 1))

-- the bits of both, and of either
unfoldable pub bits_of_both : Span → Span → Span
bits_of_both x y = span 0 (min x.high y.high)

unfoldable pub bits_of_either : Span → Span → Span
bits_of_either x y = span 0 (ceiling (max x.high y.high))

-- of a shift count only the low bits count
unfoldable pub shifted_left : ℕ → ℕ → Span → Span → Span
shifted_left m bits x y =
    if is_constant y && nat_le (x.high * 2 ^ (y.low % bits)) m then span (x.low * 2 ^ (y.low % bits)) (x.high * 2 ^ (y.low % bits))
    else full m

unfoldable pub shifted_right : ℕ → Span → Span → Span
shifted_right bits x y =
    if is_constant y then span (x.low / 2 ^ (y.low % bits)) (x.high / 2 ^ (y.low % bits)) else span 0 x.high

-- A signed operation is the unsigned one where no operand is negative.

unfoldable pub signed_divided : ℕ → ℕ → Span → Span → Span
signed_divided m half x y = if nat_lt x.high half && nat_lt y.high half then quotient_of x y else full m

unfoldable pub signed_remaining : ℕ → ℕ → Span → Span → Span
signed_remaining m half x y = if nat_lt x.high half && nat_lt y.high half then remaining x y else full m

unfoldable pub signed_shifted : ℕ → ℕ → ℕ → Span → Span → Span
signed_shifted m half bits x y = if nat_lt x.high half then shifted_right bits x y else full m

-- the line of an operator, for operands that are numbers of the width
unfoldable pub in_table : Width → Operator → Span → Span → Span
in_table w op.Add x y = sum_of (most w) x y
in_table w op.Sub x y = difference_of (most w) x y
in_table w op.Mul x y = product_of (most w) x y
in_table w op.Div x y = quotient_of x y
in_table w op.SignedDiv x y = signed_divided (most w) (half w) x y
in_table w op.Or x y = bits_of_either x y
in_table w op.And x y = bits_of_both x y
in_table w op.Lsh x y = shifted_left (most w) (width_bits w) x y
in_table w op.Rsh x y = shifted_right (width_bits w) x y
in_table w op.Mod x y = remaining x y
in_table w op.SignedMod x y = signed_remaining (most w) (half w) x y
in_table w op.Xor x y = bits_of_either x y
in_table w op.Mov x y = y
in_table w op.Arsh x y = signed_shifted (most w) (half w) (width_bits w) x y
