-- Smaller ranges are reduced to smaller ones; words stay; hulls and rounded ranges.
use Rattle.std.proofs.Common.{ℕ, suc, ◌≡◌, ◌+◌, ◌-◌, ◌^◌, ◌<◌, ◌≤◌, nat_le, ◌||◌, Bool, true, false, Option, None, Some, ℤ, pos, negsuc, refl, sym, ◌∙◌, ap, subst, inl, inr, min, max, if◌then◌else◌, arith}
use Rattle.std.specs.Prelude.{◌≤ℤ◌, ◌<ℤ◌, ◌⊎◌, int_le, int_lt}
use Rattle.std.specs.Option.{option_map, option_and_then, IsSomeAnd}
use Rattle.std.specs.Int.{cast_signed, cast_unsigned, int_min, int_max, w64}
use Rattle.std.specs.Int.RustNames.{FitsSigned}
use Rattle.std.proofs.lemmas.Bool.Decides.{nat_tests}
use Rattle.std.proofs.lemmas.Int.{of_z-to_z, ints, clamps}
use Rattle.intervals.specs.Spans.{Span, span, IsSpan, Has, Within, nonempty, hull}
use Rattle.intervals.specs.SignedSpans.{SignedSpan, signed_span, signed_full, IsSignedSpan, HasSigned, SignedWithin, inhabited_signed, cut_between, signed_hull}
use Rattle.intervals.specs.Reducing.{Limits, limits, HasWord, LimitsWithin, has_one_sign, has_one_sign_signed, signed_cut, unsigned_cut, reduction, IsReduced, IsWordLimits, IsLimits, AreAlike, AreMixed, any_sign, limits_hull}
use Rattle.intervals.specs.LimitLaws.{Related}
use Rattle.intervals.proofs.Readings.{natural_reading, negative_reading, ordered_readings, ordered_words, one_sign, both_signs, one_sign_signed, says_one_sign, says_both_signs}
use Rattle.intervals.proofs.Reduced.{IsCut, IsCutSpan, signed_cut_within, unsigned_cut_within, narrower, narrower_span, agree_is_reduced, reduced_twice}

pub then_related : {A B C D : Type 0} (R : A → B → Type 0) (S : C → D → Type 0) (f : A → Option C) (g : B → Option D) (a : Option A) (b : Option B)
    → ((p : A) (q : B) → R p q → Related S (f p) (g q)) → Related R a b → Related S (option_and_then f a) (option_and_then g b)
then_related R S f g None b k h = tt
then_related R S f g (Some p) None k h = absurd h
then_related R S f g (Some p) (Some q) k h = k p q h

pub map_related : {A B C D : Type 0} (R : A → B → Type 0) (S : C → D → Type 0) (f : A → C) (g : B → D) (a : Option A) (b : Option B)
    → ((p : A) (q : B) → R p q → S (f p) (g q)) → Related R a b → Related S (option_map f a) (option_map g b)
map_related R S f g None b k h = tt
map_related R S f g (Some p) None k h = absurd h
map_related R S f g (Some p) (Some q) k h = k p q h

abbrev pub BothCut : SignedSpan → SignedSpan → SignedSpan → SignedSpan → Type 0
BothCut c d s t = IsCut c s × IsCut d t

abbrev pub BothCutSpans : Span → Span → Span → Span → Type 0
BothCutSpans c d u v = IsCutSpan c u × IsCutSpan d v

pub signed_inhabited_related : (c d : SignedSpan) → SignedWithin c d → Related (BothCut c d) (inhabited_signed c) (inhabited_signed d)
unfolding inhabited_signed
signed_inhabited_related c d w = by (int_le c.low c.high) (int_le d.low d.high) refl refl
  where
    by : (t r : Bool) → int_le c.low c.high ≡ t → int_le d.low d.high ≡ r → Related (BothCut c d) (if t then Some c else None) (if r then Some d else None)
    by true true e f = (record { is = refl; ordered = omega (arith, ints, e) }, record { is = refl; ordered = omega (arith, ints, f) })
    by true false e f = absurd (omega (arith, ints, e, f, w.from, w.upto))
    by false r e f = tt

pub span_inhabited_related : (c d : Span) → Within c d → Related (BothCutSpans c d) (nonempty c) (nonempty d)
span_inhabited_related c d w = by (nat_le c.low c.high) (nat_le d.low d.high) refl refl
  where
    by : (t r : Bool) → nat_le c.low c.high ≡ t → nat_le d.low d.high ≡ r → Related (BothCutSpans c d) (if t then Some c else None) (if r then Some d else None)
    by true true e f = (record { is = refl; ordered = grind (arith, nat_tests, e) }, record { is = refl; ordered = grind (arith, nat_tests, f) })
    by true false e f = absurd (grind (arith, nat_tests, e, f, w.from, w.upto))
    by false r e f = tt

-- a cut by more is smaller
cut_mono : (p q : Bool) (s t : SignedSpan) (l h m n : ℤ) → SignedWithin s t → (q ≡ true → (p ≡ true) × (m ≤ℤ l) × (h ≤ℤ n))
    → SignedWithin (if p then cut_between s l h else s) (if q then cut_between t m n else t)
cut_mono true true s t l h m n w f =
    let k = f refl in
    record { from = omega (arith, ints, clamps, w.from, k.1); upto = omega (arith, ints, clamps, w.upto, k.2) }
cut_mono true false s t l h m n w f = record { from = omega (arith, ints, clamps, w.from); upto = omega (arith, ints, clamps, w.upto) }
cut_mono false true s t l h m n w f = absurd (let bad : false ≡ true = (f refl).0 in cc)
cut_mono false false s t l h m n w f = w

span_mono : (p q : Bool) (u v : Span) (l h m n : ℕ) → Within u v → (q ≡ true → (p ≡ true) × (m ≤ l) × (h ≤ n))
    → Within (if p then span (max u.low l) (min u.high h) else u) (if q then span (max v.low m) (min v.high n) else v)
span_mono true true u v l h m n w f =
    let k = f refl in
    record { from = omega (arith, w.from, k.1); upto = omega (arith, w.upto, k.2) }
span_mono true false u v l h m n w f = record { from = omega (arith, w.from); upto = omega (arith, w.upto) }
span_mono false true u v l h m n w f = absurd (let bad : false ≡ true = (f refl).0 in cc)
span_mono false false u v l h m n w f = w

pub signed_cut_mono : (u v : Span) (s t : SignedSpan) → u.low ≤ u.high → v.high < 2 ^ 64 → Within u v → SignedWithin s t
    → SignedWithin (signed_cut u s) (signed_cut v t)
unfolding signed_cut
signed_cut_mono u v s t o f w z =
    cut_mono (has_one_sign u) (has_one_sign v) s t (cast_signed w64 u.low) (cast_signed w64 u.high) (cast_signed w64 v.low) (cast_signed w64 v.high) z
    (λ e. ends (one_sign v e))
  where
    ends : (v.high < 2 ^ 63) ⊎ (2 ^ 63 ≤ v.low)
        → (has_one_sign u ≡ true) × (cast_signed w64 v.low ≤ℤ cast_signed w64 u.low) × (cast_signed w64 u.high ≤ℤ cast_signed w64 v.high)
    ends (inl small) = (
      says_one_sign u (inl (omega (arith, w.upto, small))),
      ordered_readings v.low u.low w.from (omega (arith, o, w.upto, f)) (inl (omega (arith, o, w.upto, small))),
      ordered_readings u.high v.high w.upto f (inl small),
    )
    ends (inr large) = (
      says_one_sign u (inr (omega (arith, w.from, large))),
      ordered_readings v.low u.low w.from (omega (arith, o, w.upto, f)) (inr large),
      ordered_readings u.high v.high w.upto f (inr (omega (arith, o, w.from, large))),
    )

says_one_sign_signed : (s : SignedSpan) → (pos 0 ≤ℤ s.low) ⊎ (s.high <ℤ pos 0) → has_one_sign_signed s ≡ true
says_one_sign_signed s (inl natural) = let t : true ≡ int_le (pos 0) s.low = omega (arith, ints, natural) in rw (← t) refl
says_one_sign_signed s (inr negative) = by (int_le (pos 0) s.low)
  where
    by : (t : Bool) → (t || int_lt s.high (pos 0)) ≡ true
    by true = refl
    by false = let r : true ≡ int_lt s.high (pos 0) = omega (arith, ints, negative) in sym r

pub unsigned_cut_mono : (u v : Span) (s t : SignedSpan) → IsSignedSpan s → IsSignedSpan t → SignedWithin s t → Within u v
    → Within (unsigned_cut s u) (unsigned_cut t v)
unfolding unsigned_cut
unsigned_cut_mono u v s t hs ht w z =
    span_mono (has_one_sign_signed s) (has_one_sign_signed t) u v (cast_unsigned w64 s.low) (cast_unsigned w64 s.high) (cast_unsigned w64 t.low) (cast_unsigned w64 t.high) z
    (λ e. ends (one_sign_signed t e))
  where
    ends : (pos 0 ≤ℤ t.low) ⊎ (t.high <ℤ pos 0)
        → (has_one_sign_signed s ≡ true) × (cast_unsigned w64 t.low ≤ cast_unsigned w64 s.low) × (cast_unsigned w64 s.high ≤ cast_unsigned w64 t.high)
    ends (inl g) = (
      says_one_sign_signed s (inl (omega (arith, ints, w.from, g))),
      ordered_words t.low s.low w.from ht.low_fits hs.low_fits (inl g),
      ordered_words s.high t.high w.upto hs.high_fits ht.high_fits (inl (omega (arith, ints, w.from, hs.ordered, g))),
    )
    ends (inr g) = (
      says_one_sign_signed s (inr (omega (arith, ints, w.upto, g))),
      ordered_words t.low s.low w.from ht.low_fits hs.low_fits (inr (omega (arith, ints, w.upto, hs.ordered, g))),
      ordered_words s.high t.high w.upto hs.high_fits ht.high_fits (inr g),
    )

-- what a step leaves of a range of signed numbers, or of words, is one
left_signed : (u : Span) (r s : SignedSpan) → IsSignedSpan r → IsCut (signed_cut u r) s → IsSignedSpan s
left_signed u r s h c = rw c.is (narrower (signed_cut u r) r h (signed_cut_within u r) c.ordered)

left_words : (s : SignedSpan) (u v : Span) → IsSpan (2 ^ 64 - 1) u → IsCutSpan (unsigned_cut s u) v → IsSpan (2 ^ 64 - 1) v
left_words s u v h c = rw c.is (narrower_span (2 ^ 64 - 1) (unsigned_cut s u) u h (unsigned_cut_within s u) c.ordered)

pub reduced_related : (x y : Limits) → IsWordLimits x → IsWordLimits y → LimitsWithin x y → Related LimitsWithin (reduction x) (reduction y)
unfolding reduction
reduced_related x y hx hy w =
    then_related (BothCut (signed_cut x.unsigned x.signed) (signed_cut y.unsigned y.signed)) LimitsWithin
    (λ s. option_and_then (λ u. option_map (limits u) (inhabited_signed (signed_cut u s))) (nonempty (unsigned_cut s x.unsigned)))
    (λ t. option_and_then (λ v. option_map (limits v) (inhabited_signed (signed_cut v t))) (nonempty (unsigned_cut t y.unsigned)))
    (inhabited_signed (signed_cut x.unsigned x.signed)) (inhabited_signed (signed_cut y.unsigned y.signed))
    (λ s t c. second s t c.0 c.1)
    (signed_inhabited_related (signed_cut x.unsigned x.signed) (signed_cut y.unsigned y.signed) first)
  where
    first : SignedWithin (signed_cut x.unsigned x.signed) (signed_cut y.unsigned y.signed)
    first = signed_cut_mono x.unsigned y.unsigned x.signed y.signed hx.words.ordered (omega (arith, hy.words.most)) w.unsigned w.signed

    last : (s t : SignedSpan) (u v : Span) → IsSpan (2 ^ 64 - 1) u → IsSpan (2 ^ 64 - 1) v → SignedWithin s t → Within u v
        → Related LimitsWithin (option_map (limits u) (inhabited_signed (signed_cut u s))) (option_map (limits v) (inhabited_signed (signed_cut v t)))
    last s t u v hu hv ws wu =
        let w3 = signed_cut_mono u v s t hu.ordered (omega (arith, hv.most)) wu ws in
        map_related (BothCut (signed_cut u s) (signed_cut v t)) LimitsWithin (limits u) (limits v) (inhabited_signed (signed_cut u s))
        (inhabited_signed (signed_cut v t))
        (λ p q k. record { unsigned = wu; signed = rw (k.0.is, k.1.is) w3 })
        (signed_inhabited_related (signed_cut u s) (signed_cut v t) w3)

    second : (s t : SignedSpan) → IsCut (signed_cut x.unsigned x.signed) s → IsCut (signed_cut y.unsigned y.signed) t
        → Related LimitsWithin (option_and_then (λ u. option_map (limits u) (inhabited_signed (signed_cut u s))) (nonempty (unsigned_cut s x.unsigned)))
        (option_and_then (λ v. option_map (limits v) (inhabited_signed (signed_cut v t))) (nonempty (unsigned_cut t y.unsigned)))
    second s t c d =
        let hs = left_signed x.unsigned x.signed s hx.readings c in
        let ht = left_signed y.unsigned y.signed t hy.readings d in
        let ws : SignedWithin s t = rw (c.is, d.is) first in
        let w2 = unsigned_cut_mono x.unsigned y.unsigned s t hs ht ws w.unsigned in
        then_related (BothCutSpans (unsigned_cut s x.unsigned) (unsigned_cut t y.unsigned)) LimitsWithin
        (λ u. option_map (limits u) (inhabited_signed (signed_cut u s))) (λ v. option_map (limits v) (inhabited_signed (signed_cut v t)))
        (nonempty (unsigned_cut s x.unsigned)) (nonempty (unsigned_cut t y.unsigned))
        (λ u v k.
        last s t u v (left_words s x.unsigned u hx.words k.0) (left_words t y.unsigned v hy.words k.1) ws
        (rw (k.0.is, k.1.is) w2))
        (span_inhabited_related (unsigned_cut s x.unsigned) (unsigned_cut t y.unsigned) w2)

-- where there is one, what larger ranges are reduced to has it
pub reduced_has_within : (x y : Limits) → IsWordLimits x → IsWordLimits y → IsReduced x → LimitsWithin x y
    → IsSomeAnd (reduction y) (λ z. LimitsWithin x z)
reduced_has_within x y hx hy e w = found (reduction y) (subst (λ r. Related LimitsWithin r (reduction y)) e (reduced_related x y hx hy w))
  where
    found : (r : Option Limits) → Related LimitsWithin (Some x) r → IsSomeAnd r (λ z. LimitsWithin x z)
    found None h = absurd h
    found (Some z) h = h

-- the kinds of limits
pub kind_of_reduced : (x : Limits) → IsLimits x → AreAlike x ⊎ AreMixed x
kind_of_reduced x h = (reduced_twice x x (record { words = h.words; readings = h.readings }) h.reduced).0.kind

-- limits that say the same, by their sign
pub record IsNatural (x : Limits) : Type 0 where
  pub small : x.unsigned.high < 2 ^ 63
  pub low : x.signed.low ≡ pos x.unsigned.low
  pub high : x.signed.high ≡ pos x.unsigned.high

pub record IsNegative (x : Limits) : Type 0 where
  pub large : 2 ^ 63 ≤ x.unsigned.low
  pub low : x.signed.low ≡ negsuc (2 ^ 64 - suc x.unsigned.low)
  pub high : x.signed.high ≡ negsuc (2 ^ 64 - suc x.unsigned.high)

alike_sign : (x : Limits) → IsWordLimits x → AreAlike x → IsNatural x ⊎ IsNegative x
alike_sign x h k = by (has_one_sign x.unsigned) refl
  where
    signs : (x.unsigned.high < 2 ^ 63) ⊎ (2 ^ 63 ≤ x.unsigned.low) → IsNatural x ⊎ IsNegative x
    signs (inl small) =
        inl
        (record {
          small = small;
          low = k.low ∙ natural_reading x.unsigned.low (omega (arith, h.words.ordered, small));
          high = k.high ∙ natural_reading x.unsigned.high small;
        })
    signs (inr large) =
        inr
        (record {
          large = large;
          low = k.low ∙ negative_reading x.unsigned.low large;
          high = k.high ∙ negative_reading x.unsigned.high (omega (arith, h.words.ordered, large));
        })

    by : (t : Bool) → has_one_sign x.unsigned ≡ t → IsNatural x ⊎ IsNegative x
    by true e = signs (one_sign x.unsigned e)
    by false e =
        let w = both_signs x.unsigned e in
        let low = k.low ∙ natural_reading x.unsigned.low w.0 in
        let high = k.high ∙ negative_reading x.unsigned.high w.1 in
        absurd (omega (arith, ints, low, high, h.readings.ordered))

-- the hull of ranges that are reduced is
hull_kind : (x y : Limits) → IsWordLimits x → IsWordLimits y → IsNatural x ⊎ IsNegative x → IsNatural y ⊎ IsNegative y
    → AreAlike (limits_hull x y) ⊎ AreMixed (limits_hull x y)
hull_kind x y hx hy (inl p) (inl q) =
    inl
    (record {
      low = rw (natural_reading (min x.unsigned.low y.unsigned.low) (omega (arith, hx.words.ordered, p.small))) (omega (arith, ints, clamps, p.low, q.low));
      high = rw (natural_reading (max x.unsigned.high y.unsigned.high) (omega (arith, p.small, q.small))) (omega (arith, ints, clamps, p.high, q.high));
    })
hull_kind x y hx hy (inr p) (inr q) =
    inl
    (record {
      low =
          rw (negative_reading (min x.unsigned.low y.unsigned.low) (omega (arith, p.large, q.large)))
          (omega (arith, ints, clamps, p.low, q.low, hx.words.ordered, hx.words.most, hy.words.ordered, hy.words.most));
      high =
          rw (negative_reading (max x.unsigned.high y.unsigned.high) (omega (arith, p.large, hx.words.ordered)))
          (omega (arith, ints, clamps, p.high, q.high, hx.words.most, hy.words.most));
    })
hull_kind x y hx hy (inl p) (inr q) =
    inr
    (record {
      low = omega (arith, p.small, hx.words.ordered);
      high = omega (arith, q.large, hy.words.ordered);
      signed_low = omega (arith, ints, clamps, q.low);
      signed_high = omega (arith, ints, clamps, p.high);
    })
hull_kind x y hx hy (inr p) (inl q) =
    inr
    (record {
      low = omega (arith, q.small, hy.words.ordered);
      high = omega (arith, p.large, hx.words.ordered);
      signed_low = omega (arith, ints, clamps, p.low);
      signed_high = omega (arith, ints, clamps, q.high);
    })

mixed_hull : (x y : Limits) → AreMixed x → AreMixed (limits_hull x y)
mixed_hull x y m =
    record {
      low = omega (arith, m.low);
      high = omega (arith, m.high);
      signed_low = omega (arith, ints, clamps, m.signed_low);
      signed_high = omega (arith, ints, clamps, m.signed_high);
    }

mixed_hull_right : (x y : Limits) → AreMixed y → AreMixed (limits_hull x y)
mixed_hull_right x y m =
    record {
      low = omega (arith, m.low);
      high = omega (arith, m.high);
      signed_low = omega (arith, ints, clamps, m.signed_low);
      signed_high = omega (arith, ints, clamps, m.signed_high);
    }

pub hull_words : (x y : Limits) → IsWordLimits x → IsWordLimits y → IsWordLimits (limits_hull x y)
hull_words x y hx hy =
    record {
      words = record {
        ordered = omega (arith, hx.words.ordered, hy.words.ordered);
        most = omega (arith, hx.words.most, hy.words.most);
      };
      readings = record {
        ordered = omega (arith, ints, clamps, hx.readings.ordered, hy.readings.ordered);
        low_fits = omega (arith, ints, clamps, hx.readings.low_fits, hy.readings.low_fits);
        high_fits = omega (arith, ints, clamps, hx.readings.high_fits, hy.readings.high_fits);
      };
    }

pub hull_fits : (x y : Limits) → IsLimits x → IsLimits y → IsLimits (limits_hull x y)
hull_fits x y hx hy =
    let f = hull_words x y wx wy in
    record {
      words = f.words;
      readings = f.readings;
      reduced = agree_is_reduced (limits_hull x y) f (kinds (kind_of_reduced x hx) (kind_of_reduced y hy));
    }
  where
    wx : IsWordLimits x
    wx = record { words = hx.words; readings = hx.readings }

    wy : IsWordLimits y
    wy = record { words = hy.words; readings = hy.readings }

    kinds : AreAlike x ⊎ AreMixed x → AreAlike y ⊎ AreMixed y → AreAlike (limits_hull x y) ⊎ AreMixed (limits_hull x y)
    kinds (inr m) k = inr (mixed_hull x y m)
    kinds (inl a) (inr m) = inr (mixed_hull_right x y m)
    kinds (inl a) (inl b) = hull_kind x y wx wy (alike_sign x wx a) (alike_sign y wy b)
