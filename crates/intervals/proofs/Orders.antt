-- The results of byte orders.
use Rattle.std.proofs.Common.{ℕ, ◌≡◌, ◌+◌, ◌-◌, ◌%◌, ◌^◌, ◌≤◌, nat_lt, ◌&&◌, Bool, true, false, if◌then◌else◌, refl, sym, ap, arith}
use Rattle.std.proofs.lemmas.Bool.Decides.{nat_tests}
use Rattle.std.specs.Int.{swap_bytes, w16, w32, w64}
use Rattle.std.proofs.Math.Nat.{mod-eq_of_lt}
use Rattle.bpf_isa.specs.declared.instr.Order.{Order}
use Rattle.bpf_isa.specs.declared.instr.Order.TheVariants as order
use Rattle.bpf_isa.specs.declared.instr.OrderSize.{OrderSize}
use Rattle.bpf_isa.specs.declared.instr.OrderSize.TheVariants as bits
use Rattle.machine.specs.Arithmetic.{in_order, kept_low, turned_round}
use Rattle.intervals.specs.Spans.{Span, is_constant, IsSpan, Has, Within}
use Rattle.intervals.specs.Operators.{full}
use Rattle.intervals.specs.Results.{most_of, is_little, ordered_result}
use Rattle.intervals.proofs.Decided.{has_if, fits_if, mono_if, one_still, constant_is, constant_same, low_within, stays_has, stays_mono, moved}

-- bytes in the opposite order are no more

swapped_16 : (n : ℕ) → swap_bytes w16 n ≤ 2 ^ 16 - 1
swapped_16 n = omega arith

swapped_32 : (n : ℕ) → swap_bytes w32 n ≤ 2 ^ 32 - 1
swapped_32 n = omega arith

swapped_64 : (n : ℕ) → swap_bytes w64 n ≤ 2 ^ 64 - 1
swapped_64 n = omega arith

turned_most : (size : OrderSize) (a : ℕ) → turned_round size a ≤ most_of size
unfolding turned_round
turned_most bits.Bits16 a = swapped_16 (a % 2 ^ 16)
turned_most bits.Bits32 a = swapped_32 (a % 2 ^ 32)
turned_most bits.Bits64 a = swapped_64 a

kept_most : (size : OrderSize) (a : ℕ) → a ≤ 2 ^ 64 - 1 → kept_low size a ≤ most_of size
unfolding kept_low
kept_most bits.Bits16 a h = omega arith
kept_most bits.Bits32 a h = omega arith
kept_most bits.Bits64 a h = h

order_most : (o : Order) (size : OrderSize) (a : ℕ) → a ≤ 2 ^ 64 - 1 → in_order o size a ≤ most_of size
order_most order.Little size a h = kept_most size a h
order_most order.Big size a h = turned_most size a
order_most order.Swap size a h = turned_most size a

sizes_are_words : (size : OrderSize) → most_of size ≤ 2 ^ 64 - 1
sizes_are_words bits.Bits16 = omega arith
sizes_are_words bits.Bits32 = omega arith
sizes_are_words bits.Bits64 = omega arith

-- low bytes that are the whole number
kept_plain : (size : OrderSize) (a : ℕ) → a ≤ most_of size → kept_low size a ≡ a
unfolding kept_low
kept_plain bits.Bits16 a h = mod-eq_of_lt (omega (arith, h))
kept_plain bits.Bits32 a h = mod-eq_of_lt (omega (arith, h))
kept_plain bits.Bits64 a h = refl

order_plain : (o : Order) (size : OrderSize) (a : ℕ) → is_little o ≡ true → a ≤ most_of size → in_order o size a ≡ a
order_plain order.Little size a t h = kept_plain size a h
order_plain order.Big size a t h = absurd (let bad : false ≡ true = t in cc)
order_plain order.Swap size a t h = absurd (let bad : false ≡ true = t in cc)

-- what the test of a range says that stays
little_test : (o : Order) (h m : ℕ) → is_little o && nat_lt h (m + 1) ≡ true → (is_little o ≡ true) × (h ≤ m)
little_test order.Little h m t = (refl, grind (arith, nat_tests, t))
little_test order.Big h m t = absurd (let bad : false ≡ true = t in cc)
little_test order.Swap h m t = absurd (let bad : false ≡ true = t in cc)

little_still : (o : Order) (h i m : ℕ) → h ≤ i → is_little o && nat_lt i (m + 1) ≡ true → is_little o && nat_lt h (m + 1) ≡ true
little_still order.Little h i m le t = grind (arith, nat_tests, t, le)
little_still order.Big h i m le t = t
little_still order.Swap h i m le t = t

pub ordered_has : (o : Order) (size : OrderSize) (x : Span) (a : ℕ) → IsSpan (2 ^ 64 - 1) x → Has x a
    → Has (ordered_result o size x) (in_order o size a)
unfolding ordered_result
ordered_has o size x a hx h =
    has_if (is_constant x) (in_order o size x.low) (in_order o size a) (if is_little o && nat_lt x.high (most_of size + 1) then x else full (most_of size))
    (λ t. ap (in_order o size) (constant_is x a h t))
    (stays_has (is_little o && nat_lt x.high (most_of size + 1)) (most_of size) (in_order o size a) x
    (λ t. let l = little_test o x.high (most_of size) t in
    moved x a (in_order o size a) (sym (order_plain o size a l.0 (omega (arith, l.1, h.upto)))) h)
    (order_most o size a (omega (arith, h.upto, hx.most))))

pub ordered_fits : (o : Order) (size : OrderSize) (x : Span) → IsSpan (2 ^ 64 - 1) x → IsSpan (2 ^ 64 - 1) (ordered_result o size x)
unfolding ordered_result
ordered_fits o size x h =
    fits_if (2 ^ 64 - 1) (is_constant x) (in_order o size x.low) (if is_little o && nat_lt x.high (most_of size + 1) then x else full (most_of size))
    (omega (arith, order_most o size x.low (omega (arith, h.ordered, h.most)), sizes_are_words size))
    (within_words (is_little o && nat_lt x.high (most_of size + 1)))
  where
    within_words : (t : Bool) → IsSpan (2 ^ 64 - 1) (if t then x else full (most_of size))
    within_words true = h
    within_words false = record { ordered = omega arith; most = sizes_are_words size }

pub ordered_mono : (o : Order) (size : OrderSize) (x s : Span) → IsSpan (2 ^ 64 - 1) x → Within x s
    → Within (ordered_result o size x) (ordered_result o size s)
unfolding ordered_result
ordered_mono o size x s hx a =
    mono_if (is_constant x) (is_constant s) (in_order o size x.low) (in_order o size s.low)
    (if is_little o && nat_lt x.high (most_of size + 1) then x else full (most_of size))
    (if is_little o && nat_lt s.high (most_of size + 1) then s else full (most_of size))
    (λ q. (one_still (2 ^ 64 - 1) x s hx a q, ap (in_order o size) (constant_same (2 ^ 64 - 1) x s hx a q)))
    (stays_has (is_little o && nat_lt s.high (most_of size + 1)) (most_of size) (in_order o size x.low) s
    (λ t. let l = little_test o s.high (most_of size) t in
    moved s x.low (in_order o size x.low) (sym (order_plain o size x.low l.0 (omega (arith, l.1, hx.ordered, a.upto))))
    (low_within (2 ^ 64 - 1) x s hx a))
    (order_most o size x.low (omega (arith, hx.ordered, hx.most))))
    (stays_mono (is_little o && nat_lt x.high (most_of size + 1)) (is_little o && nat_lt s.high (most_of size + 1)) (most_of size) x s
    (little_still o x.high s.high (most_of size) a.upto)
    (λ t. (little_test o x.high (most_of size) t).1) a)
