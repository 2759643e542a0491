-- Signed operations: where no number is negative they are the unsigned ones, and elsewhere they stay
-- in the width.
use Rattle.std.proofs.Common.{ℕ, zero, suc, ◌≡◌, ◌/◌, ◌%◌, ◌^◌, ◌<◌, ◌≤◌, ℤ, pos, negsuc, refl, arith}
use Rattle.std.specs.Prelude.{int_div, int_rem, neg_ℤ}
use Rattle.std.specs.Int.{int_shr, w32, w64}
use Rattle.std.proofs.lemmas.Bool.Decides.{nat_tests}
use Rattle.std.proofs.lemmas.Int.{to_z_pos, ints}
use Rattle.std.proofs.Math.Nat.{mod-le, div-le_self}
use Rattle.bpf_isa.specs.declared.instr.Width.{Width}
use Rattle.bpf_isa.specs.declared.instr.Width.TheVariants as width
use Rattle.bpf_isa.specs.declared.instr.Operator.TheVariants as op
use Rattle.machine.specs.Arithmetic.{signed_part, part_of_signed, operator_value, width_bits}
use Rattle.intervals.specs.Spans.{Span, IsSpan, Has, Within}
use Rattle.intervals.specs.Operators.{most, half, signed_divided, signed_remaining, signed_shifted}
use Rattle.intervals.proofs.Quotients.{divided_has, divided_fits, divided_mono, remaining_has, remaining_fits, remaining_mono}
use Rattle.intervals.proofs.Bits.{shifted_right_has, shifted_right_fits, shifted_right_mono}

-- a number that is not negative is at most m
abbrev pub Upto : ℕ → ℤ → Type 0
Upto m (pos n) = n ≤ m
Upto m (negsuc n) = Unit {0}

negative_upto : (m n : ℕ) → Upto m (neg_ℤ (pos n))
negative_upto m zero = omega arith
negative_upto m (suc n) = tt

unsigned_upto : (w : Width) (z : ℤ) → Upto (most w) z → part_of_signed w z ≤ most w
unsigned_upto width.W32 (pos n) h = h
unsigned_upto width.W32 (negsuc n) h = omega arith
unsigned_upto width.W64 (pos n) h = h
unsigned_upto width.W64 (negsuc n) h = omega arith

-- the size of a signed number, however far below zero
abbrev pub size : ℤ → ℕ
size (pos n) = n
size (negsuc n) = suc n

size_upto : (m : ℕ) (z : ℤ) → size z ≤ m → Upto m z
size_upto m (pos n) h = h
size_upto m (negsuc n) h = tt

-- a number of no greater size has bits of the width
pub sized_most : (w : Width) (z : ℤ) → size z ≤ most w → part_of_signed w z ≤ most w
sized_most w z h = unsigned_upto w z (size_upto (most w) z h)

signed_size : (w : Width) (a : ℕ) → a ≤ most w → size (signed_part w a) ≤ most w
signed_size width.W32 a h = grind (arith, ints, nat_tests, h)
signed_size width.W64 a h = grind (arith, ints, nat_tests, h)

quotient_upto : (m : ℕ) (a b : ℤ) → size a ≤ m → Upto m (int_div a b)
quotient_upto m (pos a) (pos b) h = omega (arith, div-le_self a b, h)
quotient_upto m (pos a) (negsuc b) h = negative_upto m (a / suc b)
quotient_upto m (negsuc a) (pos b) h = negative_upto m (suc a / b)
quotient_upto m (negsuc a) (negsuc b) h = omega (arith, div-le_self (suc a) (suc b), h)

remainder_upto : (m : ℕ) (a b : ℤ) → size a ≤ m → Upto m (int_rem a b)
remainder_upto m (pos a) (pos b) h = omega (arith, mod-le a b, h)
remainder_upto m (pos a) (negsuc b) h = omega (arith, mod-le a (suc b), h)
remainder_upto m (negsuc a) (pos b) h = negative_upto m (suc a % b)
remainder_upto m (negsuc a) (negsuc b) h = negative_upto m (suc a % suc b)

shift_upto : (m : ℕ) (a : ℤ) (k : ℕ) → size a ≤ m → Upto m (int_shr a k)
shift_upto m (pos a) k h = omega (arith, div-le_self a (2 ^ k), h)
shift_upto m (negsuc a) k h = tt

quotient_plain : (w : Width) (a b : ℕ) → a < half w → b < half w → part_of_signed w (int_div (signed_part w a) (signed_part w b)) ≡ a / b
quotient_plain width.W32 a b h k = rw (to_z_pos w32 a h, to_z_pos w32 b k) refl
quotient_plain width.W64 a b h k = rw (to_z_pos w64 a h, to_z_pos w64 b k) refl

remainder_plain : (w : Width) (a b : ℕ) → a < half w → b < half w → part_of_signed w (int_rem (signed_part w a) (signed_part w b)) ≡ a % b
remainder_plain width.W32 a b h k = rw (to_z_pos w32 a h, to_z_pos w32 b k) refl
remainder_plain width.W64 a b h k = rw (to_z_pos w64 a h, to_z_pos w64 b k) refl

shift_plain : (w : Width) (a k : ℕ) → a < half w → part_of_signed w (int_shr (signed_part w a) k) ≡ a / 2 ^ k
shift_plain width.W32 a k h = rw (to_z_pos w32 a h) refl
shift_plain width.W64 a k h = rw (to_z_pos w64 a h) refl

pub signed_divided_has : (w : Width) (x y : Span) (a b : ℕ) → IsSpan (most w) x → IsSpan (most w) y → Has x a → Has y b
    → Has (signed_divided (most w) (half w) x y) (operator_value w op.SignedDiv a b)
unfolding signed_divided operator_value
signed_divided_has w x y a b hx hy h k =
    let d = divided_has x y a b h k in
    let plain : a < half w → b < half w → part_of_signed w (int_div (signed_part w a) (signed_part w b)) ≡ a / b = quotient_plain w a b in
    let bound : part_of_signed w (int_div (signed_part w a) (signed_part w b)) ≤ most w =
    unsigned_upto w (int_div (signed_part w a) (signed_part w b))
    (quotient_upto (most w) (signed_part w a) (signed_part w b) (signed_size w a (omega (arith, h.upto, hx.most)))) in
    record { from = grind (arith, nat_tests, d.from, h.upto, k.upto); upto = grind (arith, nat_tests, d.upto, h.upto, k.upto) }

pub signed_remaining_has : (w : Width) (x y : Span) (a b : ℕ) → IsSpan (most w) x → IsSpan (most w) y → Has x a → Has y b
    → Has (signed_remaining (most w) (half w) x y) (operator_value w op.SignedMod a b)
unfolding signed_remaining operator_value
signed_remaining_has w x y a b hx hy h k =
    let d = remaining_has x y a b h k in
    let plain : a < half w → b < half w → part_of_signed w (int_rem (signed_part w a) (signed_part w b)) ≡ a % b = remainder_plain w a b in
    let bound : part_of_signed w (int_rem (signed_part w a) (signed_part w b)) ≤ most w =
    unsigned_upto w (int_rem (signed_part w a) (signed_part w b))
    (remainder_upto (most w) (signed_part w a) (signed_part w b) (signed_size w a (omega (arith, h.upto, hx.most)))) in
    record { from = grind (arith, nat_tests, d.from, h.upto, k.upto, hx.most); upto = grind (arith, nat_tests, d.upto, h.upto, k.upto, hx.most) }

pub signed_shifted_has : (w : Width) (x y : Span) (a b : ℕ) → IsSpan (most w) x → Has x a → Has y b
    → Has (signed_shifted (most w) (half w) (width_bits w) x y) (operator_value w op.Arsh a b)
unfolding signed_shifted operator_value
signed_shifted_has w x y a b hx h k =
    let d = shifted_right_has (width_bits w) x y a b h k in
    let plain : a < half w → part_of_signed w (int_shr (signed_part w a) (b % width_bits w)) ≡ a / 2 ^ (b % width_bits w) = shift_plain w a (b % width_bits w) in
    let bound : part_of_signed w (int_shr (signed_part w a) (b % width_bits w)) ≤ most w =
    unsigned_upto w (int_shr (signed_part w a) (b % width_bits w))
    (shift_upto (most w) (signed_part w a) (b % width_bits w) (signed_size w a (omega (arith, h.upto, hx.most)))) in
    record { from = grind (arith, nat_tests, d.from, h.upto); upto = grind (arith, nat_tests, d.upto, h.upto) }

pub signed_divided_fits : (m half : ℕ) (x y : Span) → IsSpan m x → IsSpan m (signed_divided m half x y)
unfolding signed_divided
signed_divided_fits m half x y hx =
    let d = divided_fits m x y hx in
    record { ordered = grind (arith, nat_tests, d.ordered); most = grind (arith, nat_tests, d.most) }

pub signed_remaining_fits : (m half : ℕ) (x y : Span) → IsSpan m x → IsSpan m y → IsSpan m (signed_remaining m half x y)
unfolding signed_remaining
signed_remaining_fits m half x y hx hy =
    let d = remaining_fits m x y hx hy in
    record { ordered = grind (arith, nat_tests, d.ordered); most = grind (arith, nat_tests, d.most) }

pub signed_shifted_fits : (m half bits : ℕ) (x y : Span) → IsSpan m x → IsSpan m (signed_shifted m half bits x y)
unfolding signed_shifted
signed_shifted_fits m half bits x y hx =
    let d = shifted_right_fits m bits x y hx in
    record { ordered = grind (arith, nat_tests, d.ordered); most = grind (arith, nat_tests, d.most) }

pub signed_divided_mono : (m half : ℕ) (x y s t : Span) → IsSpan m x → IsSpan m y → Within x s → Within y t
    → Within (signed_divided m half x y) (signed_divided m half s t)
unfolding signed_divided
signed_divided_mono m half x y s t hx hy a b =
    let d = divided_mono m x y s t hx hy a b in
    let f = divided_fits m x y hx in
    record {
      from = grind (arith, nat_tests, d.from, a.upto, b.upto);
      upto = grind (arith, nat_tests, d.upto, f.most, a.upto, b.upto);
    }

pub signed_remaining_mono : (m half : ℕ) (x y s t : Span) → IsSpan m x → IsSpan m y → Within x s → Within y t
    → Within (signed_remaining m half x y) (signed_remaining m half s t)
unfolding signed_remaining
signed_remaining_mono m half x y s t hx hy a b =
    let d = remaining_mono m x y s t hx hy a b in
    let f = remaining_fits m x y hx hy in
    record {
      from = grind (arith, nat_tests, d.from, a.upto, b.upto);
      upto = grind (arith, nat_tests, d.upto, f.most, a.upto, b.upto);
    }

pub signed_shifted_mono : (m half bits : ℕ) (x y s t : Span) → IsSpan m x → IsSpan m y → Within x s → Within y t
    → Within (signed_shifted m half bits x y) (signed_shifted m half bits s t)
unfolding signed_shifted
signed_shifted_mono m half bits x y s t hx hy a b =
    let d = shifted_right_mono m bits x y s t hx hy a b in
    let f = shifted_right_fits m bits x y hx in
    record {
      from = grind (arith, nat_tests, d.from, a.upto);
      upto = grind (arith, nat_tests, d.upto, f.most, a.upto);
    }
