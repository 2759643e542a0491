-- The table of results, for operands that are numbers of the width.
use Rattle.std.proofs.Common.{ℕ, ◌≡◌, ◌+◌, ◌-◌, ◌^◌, ◌≤◌, arith}
use Rattle.std.proofs.lemmas.Nat.{pow_pos}
use Rattle.bpf_isa.specs.declared.instr.Width.{Width}
use Rattle.bpf_isa.specs.declared.instr.Width.TheVariants as width
use Rattle.bpf_isa.specs.declared.instr.Operator.{Operator}
use Rattle.bpf_isa.specs.declared.instr.Operator.TheVariants as op
use Rattle.machine.specs.Arithmetic.{operator_value, width_bits}
use Rattle.intervals.specs.Spans.{Span, IsSpan, Has, Within}
use Rattle.intervals.specs.Operators.{most, half, in_table}
use Rattle.intervals.proofs.Sums.{added_has, added_fits, added_mono, subtracted_has, subtracted_fits, subtracted_mono, multiplied_has, multiplied_fits, multiplied_mono}
use Rattle.intervals.proofs.Quotients.{divided_has, divided_fits, divided_mono, remaining_has, remaining_fits, remaining_mono}
use Rattle.intervals.proofs.Bits.{bits_of_both_has, bits_of_both_fits, bits_of_both_mono, bits_of_either_has_or, bits_of_either_has_xor, bits_of_either_fits, bits_of_either_mono, shifted_left_has, shifted_left_fits, shifted_left_mono, shifted_right_has, shifted_right_fits, shifted_right_mono}
use Rattle.intervals.proofs.Signs.{signed_divided_has, signed_divided_fits, signed_divided_mono, signed_remaining_has, signed_remaining_fits, signed_remaining_mono, signed_shifted_has, signed_shifted_fits, signed_shifted_mono}

-- how many numbers a width has
pub numbers : (w : Width) → most w + 1 ≡ 2 ^ width_bits w
numbers w = omega (arith, pow_pos (width_bits w))

-- none is above the greatest word
pub words : (w : Width) → most w ≤ 2 ^ 64 - 1
words width.W32 = omega arith
words width.W64 = omega arith

pub table_has : (w : Width) (o : Operator) (x y : Span) (a b : ℕ) → IsSpan (most w) x → IsSpan (most w) y → Has x a → Has y b
    → Has (in_table w o x y) (operator_value w o a b)
unfolding in_table operator_value
table_has w op.Add x y a b hx hy h k = added_has (most w) (2 ^ width_bits w) x y a b (numbers w) hx hy h k
table_has w op.Sub x y a b hx hy h k = subtracted_has (most w) (2 ^ width_bits w) x y a b (numbers w) hx hy h k
table_has w op.Mul x y a b hx hy h k = multiplied_has (most w) (2 ^ width_bits w) x y a b (numbers w) h k
table_has w op.Div x y a b hx hy h k = divided_has x y a b h k
table_has w op.SignedDiv x y a b hx hy h k = signed_divided_has w x y a b hx hy h k
table_has w op.Or x y a b hx hy h k = bits_of_either_has_or x y a b (omega (arith, hx.most, words w)) (omega (arith, hy.most, words w)) h k
table_has w op.And x y a b hx hy h k = bits_of_both_has x y a b h k
table_has w op.Lsh x y a b hx hy h k = shifted_left_has (most w) (2 ^ width_bits w) (width_bits w) x y a b (numbers w) h k
table_has w op.Rsh x y a b hx hy h k = shifted_right_has (width_bits w) x y a b h k
table_has w op.Mod x y a b hx hy h k = remaining_has x y a b h k
table_has w op.SignedMod x y a b hx hy h k = signed_remaining_has w x y a b hx hy h k
table_has w op.Xor x y a b hx hy h k = bits_of_either_has_xor x y a b (omega (arith, hx.most, words w)) (omega (arith, hy.most, words w)) h k
table_has w op.Mov x y a b hx hy h k = k
table_has w op.Arsh x y a b hx hy h k = signed_shifted_has w x y a b hx h k

pub table_fits : (w : Width) (o : Operator) (x y : Span) → IsSpan (most w) x → IsSpan (most w) y → IsSpan (most w) (in_table w o x y)
unfolding in_table
table_fits w op.Add x y hx hy = added_fits (most w) x y hx hy
table_fits w op.Sub x y hx hy = subtracted_fits (most w) x y hx hy
table_fits w op.Mul x y hx hy = multiplied_fits (most w) x y hx hy
table_fits w op.Div x y hx hy = divided_fits (most w) x y hx
table_fits w op.SignedDiv x y hx hy = signed_divided_fits (most w) (half w) x y hx
table_fits w op.Or x y hx hy = bits_of_either_fits (width_bits w) x y (omega (arith, hx.most, words w)) (omega (arith, hy.most, words w)) hx hy
table_fits w op.And x y hx hy = bits_of_both_fits (most w) x y hx
table_fits w op.Lsh x y hx hy = shifted_left_fits (most w) (width_bits w) x y hx
table_fits w op.Rsh x y hx hy = shifted_right_fits (most w) (width_bits w) x y hx
table_fits w op.Mod x y hx hy = remaining_fits (most w) x y hx hy
table_fits w op.SignedMod x y hx hy = signed_remaining_fits (most w) (half w) x y hx hy
table_fits w op.Xor x y hx hy = bits_of_either_fits (width_bits w) x y (omega (arith, hx.most, words w)) (omega (arith, hy.most, words w)) hx hy
table_fits w op.Mov x y hx hy = hy
table_fits w op.Arsh x y hx hy = signed_shifted_fits (most w) (half w) (width_bits w) x y hx

pub table_mono : (w : Width) (o : Operator) (x y s t : Span) → IsSpan (most w) x → IsSpan (most w) y → IsSpan (most w) s → IsSpan (most w) t
    → Within x s → Within y t → Within (in_table w o x y) (in_table w o s t)
unfolding in_table
table_mono w op.Add x y s t hx hy hs ht a b = added_mono (most w) x y s t hx hy hs ht a b
table_mono w op.Sub x y s t hx hy hs ht a b = subtracted_mono (most w) x y s t hx hy hs ht a b
table_mono w op.Mul x y s t hx hy hs ht a b = multiplied_mono (most w) x y s t hx hy a b
table_mono w op.Div x y s t hx hy hs ht a b = divided_mono (most w) x y s t hx hy a b
table_mono w op.SignedDiv x y s t hx hy hs ht a b = signed_divided_mono (most w) (half w) x y s t hx hy a b
table_mono w op.Or x y s t hx hy hs ht a b = bits_of_either_mono x y s t (omega (arith, hs.most, words w)) (omega (arith, ht.most, words w)) a b
table_mono w op.And x y s t hx hy hs ht a b = bits_of_both_mono x y s t a b
table_mono w op.Lsh x y s t hx hy hs ht a b = shifted_left_mono (most w) (width_bits w) x y s t hx hy a b
table_mono w op.Rsh x y s t hx hy hs ht a b = shifted_right_mono (most w) (width_bits w) x y s t hx hy a b
table_mono w op.Mod x y s t hx hy hs ht a b = remaining_mono (most w) x y s t hx hy a b
table_mono w op.SignedMod x y s t hx hy hs ht a b = signed_remaining_mono (most w) (half w) x y s t hx hy a b
table_mono w op.Xor x y s t hx hy hs ht a b = bits_of_either_mono x y s t (omega (arith, hs.most, words w)) (omega (arith, ht.most, words w)) a b
table_mono w op.Mov x y s t hx hy hs ht a b = b
table_mono w op.Arsh x y s t hx hy hs ht a b = signed_shifted_mono (most w) (half w) (width_bits w) x y s t hx hy a b
