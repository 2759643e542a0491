-- The results of operators and of the opposite.
use Rattle.std.proofs.Common.{ℕ, ◌≡◌, ◌+◌, ◌-◌, ◌^◌, ◌≤◌, ◌&&◌, Bool, true, false, refl, ◌∙◌, ap, arith}
use Rattle.std.proofs.lemmas.Bool.Decides.{nat_tests}
use Rattle.bpf_isa.specs.declared.instr.Width.{Width}
use Rattle.bpf_isa.specs.declared.instr.Width.TheVariants as width
use Rattle.bpf_isa.specs.declared.instr.Operator.{Operator}
use Rattle.bpf_isa.specs.declared.instr.Operator.TheVariants as op
use Rattle.std.proofs.lemmas.Nat.{pow_pos}
use Rattle.std.proofs.Math.Nat.{mod-lt}
use Rattle.machine.specs.Arithmetic.{operator_value, arithmetic, width_bits, low}
use Rattle.intervals.specs.Spans.{Span, is_constant, IsSpan, Has, Within}
use Rattle.intervals.specs.Operators.{most, full, in_table}
use Rattle.intervals.specs.Results.{part_of_width, is_exact, operator_result, arithmetic_result, opposite, negated_result}
use Rattle.intervals.proofs.TableLaws.{table_has, table_fits, table_mono}
use Rattle.intervals.proofs.Decided.{has_if, fits_if, mono_if, full_has, full_fits, low_has, one_still, constant_is, constant_same}
use Rattle.intervals.proofs.Cuts.{cut_has, cut_fits, cut_mono, wider}

-- the operators over numbers of the width

both_constant : (e : Bool) (x y : Span) → e && (is_constant x && is_constant y) ≡ true → (x.low ≡ x.high) × (y.low ≡ y.high)
both_constant true x y t = (grind (arith, nat_tests, t), grind (arith, nat_tests, t))
both_constant false x y t = absurd (let bad : false ≡ true = t in cc)

still_constant : (e : Bool) (x y s t : Span) (m : ℕ) → IsSpan m x → IsSpan m y → Within x s → Within y t
    → e && (is_constant s && is_constant t) ≡ true → e && (is_constant x && is_constant y) ≡ true
still_constant true x y s t m hx hy a b q = grind (arith, nat_tests, q, hx.ordered, hy.ordered, a.from, a.upto, b.from, b.upto)
still_constant false x y s t m hx hy a b q = q

computed_same : (w : Width) (o : Operator) (a b c d : ℕ) → a ≡ c → b ≡ d → operator_value w o a b ≡ operator_value w o c d
computed_same w o a b c d e f = ap (λ n. operator_value w o n b) e ∙ ap (λ n. operator_value w o c n) f

operated_has : (w : Width) (o : Operator) (x y : Span) (a b : ℕ) → IsSpan (most w) x → IsSpan (most w) y → Has x a → Has y b
    → Has (operator_result w o x y) (operator_value w o a b)
unfolding operator_result
operated_has w o x y a b hx hy h k =
    has_if (is_exact o && (is_constant x && is_constant y)) (operator_value w o x.low y.low) (operator_value w o a b) (in_table w o x y)
    (λ t. let c = both_constant (is_exact o) x y t in
    computed_same w o a b x.low y.low (omega (arith, c.0, h.from, h.upto)) (omega (arith, c.1, k.from, k.upto)))
    (table_has w o x y a b hx hy h k)

operated_fits : (w : Width) (o : Operator) (x y : Span) → IsSpan (most w) x → IsSpan (most w) y → IsSpan (most w) (operator_result w o x y)
unfolding operator_result
operated_fits w o x y hx hy =
    let f = table_fits w o x y hx hy in
    let h = table_has w o x y x.low y.low hx hy (low_has (most w) x hx) (low_has (most w) y hy) in
    fits_if (most w) (is_exact o && (is_constant x && is_constant y)) (operator_value w o x.low y.low) (in_table w o x y) (omega (arith, h.upto, f.most)) f

operated_mono : (w : Width) (o : Operator) (x y s t : Span) → IsSpan (most w) x → IsSpan (most w) y → IsSpan (most w) s
    → IsSpan (most w) t → Within x s → Within y t → Within (operator_result w o x y) (operator_result w o s t)
unfolding operator_result
operated_mono w o x y s t hx hy hs ht a b =
    mono_if (is_exact o && (is_constant x && is_constant y)) (is_exact o && (is_constant s && is_constant t))
    (operator_value w o x.low y.low) (operator_value w o s.low t.low) (in_table w o x y) (in_table w o s t)
    (λ q. let c = both_constant (is_exact o) s t q in (
      still_constant (is_exact o) x y s t (most w) hx hy a b q,
      computed_same w o x.low y.low s.low t.low
          (omega (arith, c.0, hx.ordered, a.from, a.upto)) (omega (arith, c.1, hy.ordered, b.from, b.upto)),
    ))
    (table_has w o s t x.low y.low hs ht
    (record { from = a.from; upto = omega (arith, hx.ordered, a.upto) })
    (record { from = b.from; upto = omega (arith, hy.ordered, b.upto) }))
    (table_mono w o x y s t hx hy hs ht a b)

pub arithmetic_has : (w : Width) (o : Operator) (x y : Span) (a b : ℕ) → IsSpan (2 ^ 64 - 1) x → IsSpan (2 ^ 64 - 1) y → Has x a → Has y b
    → Has (arithmetic_result w o x y) (arithmetic w o a b)
unfolding arithmetic_result arithmetic
arithmetic_has w o x y a b hx hy h k =
    operated_has w o (part_of_width w x) (part_of_width w y) (low w a) (low w b) (cut_fits w x hx) (cut_fits w y hy) (cut_has w x a h) (cut_has w y b k)

pub arithmetic_fits : (w : Width) (o : Operator) (x y : Span) → IsSpan (2 ^ 64 - 1) x → IsSpan (2 ^ 64 - 1) y
    → IsSpan (2 ^ 64 - 1) (arithmetic_result w o x y)
unfolding arithmetic_result
arithmetic_fits w o x y hx hy = wider w _ (operated_fits w o (part_of_width w x) (part_of_width w y) (cut_fits w x hx) (cut_fits w y hy))

pub arithmetic_mono : (w : Width) (o : Operator) (x y s t : Span) → IsSpan (2 ^ 64 - 1) x → IsSpan (2 ^ 64 - 1) y → IsSpan (2 ^ 64 - 1) s
    → IsSpan (2 ^ 64 - 1) t → Within x s → Within y t → Within (arithmetic_result w o x y) (arithmetic_result w o s t)
unfolding arithmetic_result
arithmetic_mono w o x y s t hx hy hs ht a b =
    operated_mono w o (part_of_width w x) (part_of_width w y) (part_of_width w s) (part_of_width w t)
    (cut_fits w x hx) (cut_fits w y hy) (cut_fits w s hs) (cut_fits w t ht) (cut_mono w x s hx a) (cut_mono w y t hy b)

-- the opposite

opposite_most : (w : Width) (a : ℕ) → operator_value w op.Sub 0 a ≤ most w
unfolding operator_value
opposite_most w a = omega (arith, mod-lt (0 + (2 ^ width_bits w - a)) (pow_pos (width_bits w)))

opposite_has : (w : Width) (x : Span) (a : ℕ) → Has x a → Has (opposite w x) (operator_value w op.Sub 0 a)
unfolding opposite
opposite_has w x a h =
    has_if (is_constant x) (operator_value w op.Sub 0 x.low) (operator_value w op.Sub 0 a) (full (most w))
    (λ t. ap (λ n. operator_value w op.Sub 0 n) (constant_is x a h t)) (full_has (most w) (operator_value w op.Sub 0 a) (opposite_most w a))

opposite_fits : (w : Width) (x : Span) → IsSpan (most w) (opposite w x)
unfolding opposite
opposite_fits w x = fits_if (most w) (is_constant x) (operator_value w op.Sub 0 x.low) (full (most w)) (opposite_most w x.low) (full_fits (most w))

opposite_mono : (w : Width) (x s : Span) → IsSpan (most w) x → Within x s → Within (opposite w x) (opposite w s)
unfolding opposite
opposite_mono w x s h a =
    mono_if (is_constant x) (is_constant s) (operator_value w op.Sub 0 x.low) (operator_value w op.Sub 0 s.low) (full (most w)) (full (most w))
    (λ q. (one_still (most w) x s h a q, ap (λ n. operator_value w op.Sub 0 n) (constant_same (most w) x s h a q)))
    (full_has (most w) (operator_value w op.Sub 0 x.low) (opposite_most w x.low))
    (record { from = omega arith; upto = omega arith })

zero_low : (w : Width) → low w 0 ≡ 0
zero_low width.W32 = refl
zero_low width.W64 = refl

pub negated_has : (w : Width) (x : Span) (a : ℕ) → IsSpan (2 ^ 64 - 1) x → Has x a → Has (negated_result w x) (arithmetic w op.Sub 0 a)
unfolding negated_result arithmetic
negated_has w x a hx h = rw (zero_low w) (opposite_has w (part_of_width w x) (low w a) (cut_has w x a h))

pub negated_fits : (w : Width) (x : Span) → IsSpan (2 ^ 64 - 1) x → IsSpan (2 ^ 64 - 1) (negated_result w x)
unfolding negated_result
negated_fits w x h = wider w _ (opposite_fits w (part_of_width w x))

pub negated_mono : (w : Width) (x s : Span) → IsSpan (2 ^ 64 - 1) x → Within x s
    → Within (negated_result w x) (negated_result w s)
unfolding negated_result
negated_mono w x s hx a = opposite_mono w (part_of_width w x) (part_of_width w s) (cut_fits w x hx) (cut_mono w x s hx a)
