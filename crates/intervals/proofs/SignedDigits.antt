-- The powers of two next to a signed number, by which signed ranges are rounded.
use Rattle.std.proofs.Common.{ℕ, suc, ◌≡◌, ◌+◌, ◌-◌, ◌^◌, ◌<◌, ◌≤◌, Option, None, Some, ℤ, pos, negsuc, refl, sym, ◌∙◌, ap, subst, inl, inr, arith}
use Rattle.std.specs.Prelude.{◌≤ℤ◌, ◌<ℤ◌, ◌⊎◌, neg_ℤ, unwrap_or}
use Rattle.std.specs.Option.{IsSomeAnd}
use Rattle.std.specs.Int.{w64}
use Rattle.std.specs.Int.RustNames.{FitsSigned}
use Rattle.std.proofs.lemmas.Int.{ints}
use Rattle.std.proofs.lemmas.Nat.{pow_pos}
use Rattle.intervals.specs.Spans.{Span, IsSpan, Within}
use Rattle.intervals.specs.Rounding.{ceiling, round_span}
use Rattle.intervals.specs.SignedSpans.{SignedSpan, IsSignedSpan, SignedWithin}
use Rattle.intervals.specs.SignedRounding.{signed_floor, signed_ceiling, signed_rounded, round_limits, limits_rounded, IsSignedFloor, IsSignedCeiling}
use Rattle.intervals.specs.Reducing.{Limits, limits, LimitsWithin, reduction, IsReduced, IsWordLimits, IsLimits}
use Rattle.intervals.specs.LimitLaws.{Related}
use Rattle.intervals.proofs.Digits.{ceiling_zero, ceiling_nearest, ceiling_mono, ceiling_fits, rounded_within, rounded_fits, rounded_mono}
use Rattle.intervals.proofs.Reduced.{reduced_twice}
use Rattle.intervals.proofs.Smaller.{reduced_related, reduced_has_within}

pub floor_below : (z : ℤ) → FitsSigned w64 z → signed_floor z ≤ℤ z
unfolding signed_floor
floor_below (pos n) h = omega (arith, ints)
floor_below (negsuc n) h = let c = ceiling_nearest n (omega (arith, ints, h)) in omega (arith, ints, c.above)

pub ceiling_above : (z : ℤ) → FitsSigned w64 z → z ≤ℤ signed_ceiling z
unfolding signed_ceiling
ceiling_above (pos n) h = let c = ceiling_nearest n (omega (arith, ints, h)) in omega (arith, ints, c.above)
ceiling_above (negsuc n) h = omega (arith, ints)

floor_fits : (z : ℤ) → FitsSigned w64 z → FitsSigned w64 (signed_floor z)
unfolding signed_floor
floor_fits (pos n) h = omega (arith, ints)
floor_fits (negsuc n) h =
    let small : n < 2 ^ 63 = omega (arith, ints, h) in
    let c = ceiling_fits n 63 (omega (arith, small)) small in
    omega (arith, ints, c)

ceiling_signed_fits : (z : ℤ) → FitsSigned w64 z → FitsSigned w64 (signed_ceiling z)
unfolding signed_ceiling
ceiling_signed_fits (pos n) h =
    let small : n < 2 ^ 63 = omega (arith, ints, h) in
    let c = ceiling_fits n 63 (omega (arith, small)) small in
    omega (arith, ints, c)
ceiling_signed_fits (negsuc n) h = omega (arith, ints)

floor_signed_mono : (y z : ℤ) → y ≤ℤ z → FitsSigned w64 y → FitsSigned w64 z → signed_floor y ≤ℤ signed_floor z
unfolding signed_floor
floor_signed_mono (pos a) (pos b) le f g = omega (arith, ints)
floor_signed_mono (pos a) (negsuc b) le f g = absurd (omega (arith, ints, le))
floor_signed_mono (negsuc a) (pos b) le f g = omega (arith, ints)
floor_signed_mono (negsuc a) (negsuc b) le f g =
    let m = ceiling_mono b a (omega (arith, ints, le)) (omega (arith, ints, f)) in
    omega (arith, ints, m)

ceiling_signed_mono : (y z : ℤ) → y ≤ℤ z → FitsSigned w64 y → FitsSigned w64 z → signed_ceiling y ≤ℤ signed_ceiling z
unfolding signed_ceiling
ceiling_signed_mono (pos a) (pos b) le f g =
    let m = ceiling_mono a b (omega (arith, ints, le)) (omega (arith, ints, g)) in
    omega (arith, ints, m)
ceiling_signed_mono (pos a) (negsuc b) le f g = absurd (omega (arith, ints, le))
ceiling_signed_mono (negsuc a) (pos b) le f g = omega (arith, ints)
ceiling_signed_mono (negsuc a) (negsuc b) le f g = omega (arith, ints)

pub widened_within : (x : Limits) → IsWordLimits x → LimitsWithin x (round_limits x)
unfolding signed_rounded
widened_within x h =
    record {
      unsigned = rounded_within x.unsigned h.words;
      signed = record { from = floor_below x.signed.low h.readings.low_fits; upto = ceiling_above x.signed.high h.readings.high_fits };
    }

pub widened_fits : (x : Limits) → IsWordLimits x → IsWordLimits (round_limits x)
unfolding signed_rounded
widened_fits x h =
    let a = floor_below x.signed.low h.readings.low_fits in
    let b = ceiling_above x.signed.high h.readings.high_fits in
    record {
      words = rounded_fits 64 x.unsigned (omega arith) h.words;
      readings = record {
        ordered = omega (arith, ints, a, b, h.readings.ordered);
        low_fits = floor_fits x.signed.low h.readings.low_fits;
        high_fits = ceiling_signed_fits x.signed.high h.readings.high_fits;
      };
    }

pub widened_mono : (x y : Limits) → IsWordLimits x → IsWordLimits y → LimitsWithin x y → LimitsWithin (round_limits x) (round_limits y)
unfolding signed_rounded
widened_mono x y hx hy w =
    record {
      unsigned = rounded_mono x.unsigned y.unsigned hx.words hy.words w.unsigned;
      signed = record {
        from = floor_signed_mono y.signed.low x.signed.low w.signed.from hy.readings.low_fits hx.readings.low_fits;
        upto = ceiling_signed_mono x.signed.high y.signed.high w.signed.upto hx.readings.high_fits hy.readings.high_fits;
      };
    }

-- what is rounded is there, and is what the definition says
pub record IsRounded (x y : Limits) : Type 0 where
  pub is : reduction (round_limits x) ≡ Some y
  pub rounded_is : limits_rounded x ≡ y
  pub within : LimitsWithin x y

pub rounded_there : (x : Limits) → IsLimits x → (r : Option Limits) → r ≡ reduction (round_limits x) → IsSomeAnd r (λ y. IsRounded x y)
unfolding limits_rounded
rounded_there x h r e = found r e (subst (λ o. IsSomeAnd o (λ y. LimitsWithin x y)) (sym e) (reduced_has_within x (round_limits x) hx (widened_fits x hx) h.reduced (widened_within x hx)))
  where
    hx : IsWordLimits x
    hx = record { words = h.words; readings = h.readings }

    found : (o : Option Limits) → o ≡ reduction (round_limits x) → IsSomeAnd o (λ y. LimitsWithin x y) → IsSomeAnd o (λ y. IsRounded x y)
    found None e k = absurd k
    found (Some y) e k = record { is = sym e; rounded_is = ap (λ o. unwrap_or o x) (sym e); within = k }

pub rounded_is : (x : Limits) → IsLimits x → IsRounded x (limits_rounded x)
rounded_is x h = is_it (reduction (round_limits x)) refl (rounded_there x h (reduction (round_limits x)) refl)
  where
    is_it : (r : Option Limits) → r ≡ reduction (round_limits x) → IsSomeAnd r (λ y. IsRounded x y) → IsRounded x (limits_rounded x)
    is_it None e k = absurd k
    is_it (Some y) e k = subst (IsRounded x) (sym k.rounded_is) k

words_of : (x : Limits) → IsLimits x → IsWordLimits x
words_of x h = record { words = h.words; readings = h.readings }

pub limits_rounded_fits : (x : Limits) → IsLimits x → IsLimits (limits_rounded x)
limits_rounded_fits x h =
    let k = reduced_twice (round_limits x) (limits_rounded x) (widened_fits x (words_of x h)) (rounded_is x h).is in
    record { words = k.0.fits.words; readings = k.0.fits.readings; reduced = k.1 }

pub limits_rounded_mono : (x y : Limits) → IsLimits x → IsLimits y → LimitsWithin x y → LimitsWithin (limits_rounded x) (limits_rounded y)
limits_rounded_mono x y hx hy w =
    both (rounded_is x hx).is (rounded_is y hy).is
    (reduced_related (round_limits x) (round_limits y) (widened_fits x (words_of x hx)) (widened_fits y (words_of y hy)) (widened_mono x y (words_of x hx) (words_of y hy) w))
  where
    both : reduction (round_limits x) ≡ Some (limits_rounded x) → reduction (round_limits y) ≡ Some (limits_rounded y)
        → Related LimitsWithin (reduction (round_limits x)) (reduction (round_limits y)) → LimitsWithin (limits_rounded x) (limits_rounded y)
    both p q r = subst (λ o. Related LimitsWithin (Some (limits_rounded x)) o) q (subst (λ o. Related LimitsWithin o (reduction (round_limits y))) p r)

-- the nearest ends

pub floor_signed_nearest : (z : ℤ) → FitsSigned w64 z → IsSignedFloor z (signed_floor z)
unfolding signed_floor
floor_signed_nearest (pos n) h =
    record {
      kind = inl refl;
      below = omega (arith, ints);
      natural = λ p. omega (arith, ints);
      nearest = λ k p. let some = pow_pos k in omega (arith, ints, some);
    }
floor_signed_nearest (negsuc n) h =
    let c = ceiling_nearest n (omega (arith, ints, h)) in
    let some = pow_pos c.kind.0 in
    record {
      kind = inr (c.kind.0, omega (arith, ints, c.kind.1, some));
      below = omega (arith, ints, c.above);
      natural = λ p. absurd (omega (arith, ints, p));
      nearest = λ k p. let one = pow_pos k in let l = c.least k (omega (arith, ints, p, one)) in omega (arith, ints, l, one);
    }

pub ceiling_signed_nearest : (z : ℤ) → FitsSigned w64 z → IsSignedCeiling z (signed_ceiling z)
unfolding signed_ceiling
ceiling_signed_nearest (pos n) h =
    let c = ceiling_nearest n (omega (arith, ints, h)) in
    record {
      kind = inr (c.kind.0, ap pos c.kind.1);
      above = omega (arith, ints, c.above);
      negative = λ p. absurd (omega (arith, ints, p));
      nearest = λ k p. let l = c.least k (omega (arith, ints, p)) in omega (arith, ints, l);
    }
ceiling_signed_nearest (negsuc n) h =
    record { kind = inl refl; above = omega (arith, ints); negative = λ p. omega (arith, ints); nearest = λ k p. omega (arith, ints) }
