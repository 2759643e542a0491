-- Sums and differences of signed readings, and what results are made of them.
use Rattle.std.proofs.Common.{ℕ, suc, ◌≡◌, ◌+◌, ◌-◌, ◌%◌, ◌^◌, ◌<◌, ◌≤◌, ◌&&◌, Bool, true, false, Option, None, Some, ℤ, pos, negsuc, refl, sym, ◌∙◌, ap, subst, if◌then◌else◌, arith}
use Rattle.std.specs.Prelude.{◌≤ℤ◌, ◌<ℤ◌, ◌+ℤ◌, ◌-ℤ◌, int_le, unwrap_or}
use Rattle.std.specs.Option.{option_and_then, IsSomeAnd}
use Rattle.std.specs.Int.{cast_signed, w64}
use Rattle.std.specs.Int.RustNames.{FitsSigned}
use Rattle.std.proofs.lemmas.Int.{wrapping_add-bits, wrapping_sub-bits, int_wrap_fits, ints}
use Rattle.bpf_isa.specs.declared.instr.Instr.{Instr}
use Rattle.bpf_isa.specs.declared.instr.Instr.TheVariants as instr
use Rattle.bpf_isa.specs.declared.instr.Source.{Source}
use Rattle.bpf_isa.specs.declared.instr.Width.{Width}
use Rattle.bpf_isa.specs.declared.instr.Width.TheVariants as width
use Rattle.bpf_isa.specs.declared.instr.Operator.{Operator}
use Rattle.bpf_isa.specs.declared.instr.Operator.TheVariants as op
use Rattle.machine.specs.Arithmetic.{arithmetic, operator_value}
use Rattle.intervals.specs.SignedSpans.{SignedSpan, signed_span, signed_full, least, greatest, IsSignedSpan, HasSigned, SignedWithin}
use Rattle.intervals.specs.SignedResults.{if_signed, signed_or_full, signed_result_of}

sum_reading : (a b : ℕ) → a < 2 ^ 64 → b < 2 ^ 64 → FitsSigned w64 (cast_signed w64 a +ℤ cast_signed w64 b)
    → cast_signed w64 ((a + b) % 2 ^ 64) ≡ cast_signed w64 a +ℤ cast_signed w64 b
sum_reading a b h k f = wrapping_add-bits w64 a b h k ∙ int_wrap_fits w64 (cast_signed w64 a +ℤ cast_signed w64 b) f

difference_reading : (a b : ℕ) → a < 2 ^ 64 → b < 2 ^ 64 → FitsSigned w64 (cast_signed w64 a -ℤ cast_signed w64 b)
    → cast_signed w64 ((a + (2 ^ 64 - b)) % 2 ^ 64) ≡ cast_signed w64 a -ℤ cast_signed w64 b
difference_reading a b h k f = wrapping_sub-bits w64 a b h k ∙ int_wrap_fits w64 (cast_signed w64 a -ℤ cast_signed w64 b) f

full_has : (c : ℕ) → HasSigned signed_full (cast_signed w64 c)
full_has c = record { from = omega (arith, ints); upto = omega (arith, ints) }

full_fits : IsSignedSpan signed_full
full_fits = record { ordered = omega (arith, ints); low_fits = omega (arith, ints); high_fits = omega (arith, ints) }

-- a number between two ends is one of their range, where that is taken
or_full_has : (l h z : ℤ) (c : ℕ) → l ≤ℤ z → z ≤ℤ h → (FitsSigned w64 z → cast_signed w64 c ≡ z) → HasSigned (signed_or_full l h) (cast_signed w64 c)
unfolding if_signed
or_full_has l h z c p q f = by (int_le least l) (int_le h greatest) refl refl
  where
    by : (t r : Bool) → int_le least l ≡ t → int_le h greatest ≡ r
        → HasSigned (unwrap_or (if t && r then Some (signed_span l h) else None) signed_full) (cast_signed w64 c)
    by true true d e =
        let fits : FitsSigned w64 z = omega (arith, ints, d, e, p, q) in
        let is = f fits in
        rw is (record { from = p; upto = q })
    by true false d e = full_has c
    by false r d e = full_has c

or_full_fits : (l h : ℤ) → l ≤ℤ h → IsSignedSpan (signed_or_full l h)
unfolding if_signed
or_full_fits l h o = by (int_le least l) (int_le h greatest) refl refl
  where
    by : (t r : Bool) → int_le least l ≡ t → int_le h greatest ≡ r → IsSignedSpan (unwrap_or (if t && r then Some (signed_span l h) else None) signed_full)
    by true true d e = record { ordered = o; low_fits = omega (arith, ints, d, e, o); high_fits = omega (arith, ints, d, e, o) }
    by true false d e = full_fits
    by false r d e = full_fits

or_full_mono : (l h m n : ℤ) → m ≤ℤ l → h ≤ℤ n → SignedWithin (signed_or_full l h) (signed_or_full m n)
unfolding if_signed
or_full_mono l h m n p q = by (int_le least l) (int_le h greatest) (int_le least m) (int_le n greatest) refl refl refl refl
  where
    within : (t r : Bool) → int_le least l ≡ t → int_le h greatest ≡ r
        → SignedWithin (unwrap_or (if t && r then Some (signed_span l h) else None) signed_full) signed_full
    within true true d e = record { from = omega (arith, ints, d); upto = omega (arith, ints, e) }
    within true false d e = record { from = omega (arith, ints); upto = omega (arith, ints) }
    within false r d e = record { from = omega (arith, ints); upto = omega (arith, ints) }

    by : (t r s u : Bool) → int_le least l ≡ t → int_le h greatest ≡ r → int_le least m ≡ s → int_le n greatest ≡ u
        → SignedWithin (unwrap_or (if t && r then Some (signed_span l h) else None) signed_full)
        (unwrap_or (if s && u then Some (signed_span m n) else None) signed_full)
    by true true true true d e f g = record { from = p; upto = q }
    by false r true true d e f g = absurd (omega (arith, ints, d, f, p))
    by true false true true d e f g = absurd (omega (arith, ints, e, g, q))
    by t r true false d e f g = within t r d e
    by t r false u d e f g = within t r d e

pub signed_result_has : (w : Width) (o : Operator) (dst : ℕ) (from : Source) (x y : SignedSpan) (a b : ℕ) → a < 2 ^ 64 → b < 2 ^ 64
    → HasSigned x (cast_signed w64 a) → HasSigned y (cast_signed w64 b)
    → HasSigned (signed_result_of (instr.Arithmetic w o dst from) x y) (cast_signed w64 (arithmetic w o a b))
unfolding signed_result_of arithmetic operator_value
signed_result_has width.W64 op.Mov dst from x y a b h k hx hy = hy
signed_result_has width.W64 op.Add dst from x y a b h k hx hy =
    or_full_has (x.low +ℤ y.low) (x.high +ℤ y.high) (cast_signed w64 a +ℤ cast_signed w64 b) ((a + b) % 2 ^ 64)
    (omega (arith, ints, hx.from, hy.from)) (omega (arith, ints, hx.upto, hy.upto)) (λ f. sum_reading a b h k f)
signed_result_has width.W64 op.Sub dst from x y a b h k hx hy =
    or_full_has (x.low -ℤ y.high) (x.high -ℤ y.low) (cast_signed w64 a -ℤ cast_signed w64 b) ((a + (2 ^ 64 - b)) % 2 ^ 64)
    (omega (arith, ints, hx.from, hy.upto)) (omega (arith, ints, hx.upto, hy.from)) (λ f. difference_reading a b h k f)
signed_result_has w o dst from x y a b h k hx hy = full_has (arithmetic w o a b)

pub signed_result_fits : (i : Instr) (x y : SignedSpan) → IsSignedSpan x → IsSignedSpan y → IsSignedSpan (signed_result_of i x y)
unfolding signed_result_of
signed_result_fits (instr.Arithmetic width.W64 op.Mov dst from) x y hx hy = hy
signed_result_fits (instr.Arithmetic width.W64 op.Add dst from) x y hx hy =
    or_full_fits (x.low +ℤ y.low) (x.high +ℤ y.high) (omega (arith, ints, hx.ordered, hy.ordered))
signed_result_fits (instr.Arithmetic width.W64 op.Sub dst from) x y hx hy =
    or_full_fits (x.low -ℤ y.high) (x.high -ℤ y.low) (omega (arith, ints, hx.ordered, hy.ordered))
signed_result_fits _ x y hx hy = full_fits

pub signed_result_mono : (i : Instr) (x y s t : SignedSpan) → SignedWithin x s → SignedWithin y t
    → SignedWithin (signed_result_of i x y) (signed_result_of i s t)
unfolding signed_result_of
signed_result_mono (instr.Arithmetic width.W64 op.Mov dst from) x y s t wx wy = wy
signed_result_mono (instr.Arithmetic width.W64 op.Add dst from) x y s t wx wy =
    or_full_mono (x.low +ℤ y.low) (x.high +ℤ y.high) (s.low +ℤ t.low) (s.high +ℤ t.high)
    (omega (arith, ints, wx.from, wy.from)) (omega (arith, ints, wx.upto, wy.upto))
signed_result_mono (instr.Arithmetic width.W64 op.Sub dst from) x y s t wx wy =
    or_full_mono (x.low -ℤ y.high) (x.high -ℤ y.low) (s.low -ℤ t.high) (s.high -ℤ t.low)
    (omega (arith, ints, wx.from, wy.upto)) (omega (arith, ints, wx.upto, wy.from))
signed_result_mono _ x y s t wx wy = record { from = omega (arith, ints); upto = omega (arith, ints) }

pub full_reading : (c : ℕ) → HasSigned signed_full (cast_signed w64 c)
full_reading c = full_has c

-- the test of both ends, as the code makes it

pub low_leaves : (a b : ℤ) → (FitsSigned w64 a → ⊥) → a ≤ℤ b → None ≡ if_signed a b
unfolding if_signed
low_leaves a b n o = by (int_le least a) (int_le b greatest) refl refl
  where
    by : (t r : Bool) → int_le least a ≡ t → int_le b greatest ≡ r → None ≡ (if t && r then Some (signed_span a b) else None)
    by true true d e = absurd (n (omega (arith, ints, d, e, o)))
    by true false d e = refl
    by false r d e = refl

pub high_leaves : (a b : ℤ) → (FitsSigned w64 b → ⊥) → a ≤ℤ b → None ≡ if_signed a b
unfolding if_signed
high_leaves a b n o = by (int_le least a) (int_le b greatest) refl refl
  where
    by : (t r : Bool) → int_le least a ≡ t → int_le b greatest ≡ r → None ≡ (if t && r then Some (signed_span a b) else None)
    by true true d e = absurd (n (omega (arith, ints, d, e, o)))
    by true false d e = refl
    by false r d e = refl

pub both_stay : (a b l h : ℤ) → FitsSigned w64 a → FitsSigned w64 b → l ≡ a → h ≡ b → Some (signed_span l h) ≡ if_signed a b
unfolding if_signed
both_stay a b l h f g p q =
    let t : true ≡ int_le least a = omega (arith, ints, f) in
    let r : true ≡ int_le b greatest = omega (arith, ints, g) in
    rw (← t, ← r) (λ i. Some (signed_span (p i) (q i)))
