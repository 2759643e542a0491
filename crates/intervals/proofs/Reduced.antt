-- Reducing: where it ends, what it keeps, and that smaller ranges stay smaller.
use Rattle.std.proofs.Common.{ℕ, suc, ◌≡◌, ◌+◌, ◌-◌, ◌^◌, ◌<◌, ◌≤◌, nat_le, Bool, true, false, Option, None, Some, ℤ, pos, negsuc, refl, sym, ◌∙◌, ap, subst, inl, inr, min, max, if◌then◌else◌, arith}
use Rattle.std.specs.Prelude.{◌≤ℤ◌, ◌<ℤ◌, ◌⊎◌, int_le, int_lt}
use Rattle.std.specs.Option.{option_map, option_and_then, IsSomeAnd}
use Rattle.std.specs.Int.{cast_signed, cast_unsigned, int_min, int_max, w64}
use Rattle.std.specs.Int.RustNames.{FitsSigned}
use Rattle.std.proofs.lemmas.Bool.Decides.{nat_tests}
use Rattle.std.proofs.lemmas.Int.{of_z-to_z, to_z-of_z, ints, clamps}
use Rattle.intervals.specs.Spans.{Span, span, IsSpan, Has, Within, nonempty}
use Rattle.intervals.specs.SignedSpans.{SignedSpan, signed_span, signed_full, IsSignedSpan, HasSigned, SignedWithin, inhabited_signed, cut_between}
use Rattle.intervals.specs.Reducing.{Limits, limits, has_one_sign, has_one_sign_signed, signed_cut, unsigned_cut, LimitsWithin, reduction, IsReduced, IsWordLimits, IsLimits, AreAlike, AreMixed, any_sign}
use Rattle.intervals.proofs.Readings.{natural_reading, negative_reading, ordered_readings, ordered_words, one_sign, both_signs, one_sign_signed, both_signs_signed, says_one_sign, says_both_signs, says_both_signs_signed}

-- what holds where there is something
abbrev pub Whenever : {A : Type 0} → (A → Type 0) → Option A → Type 0
Whenever P None = Unit {0}
Whenever P (Some p) = P p

pub then_whenever : {A B : Type 0} (P : A → Type 0) (Q : B → Type 0) (f : A → Option B) (a : Option A) → ((p : A) → P p → Whenever Q (f p)) → Whenever P a
    → Whenever Q (option_and_then f a)
then_whenever P Q f None k h = tt
then_whenever P Q f (Some p) k h = k p h

pub map_whenever : {A B : Type 0} (P : A → Type 0) (Q : B → Type 0) (f : A → B) (a : Option A) → ((p : A) → P p → Q (f p)) → Whenever P a
    → Whenever Q (option_map f a)
map_whenever P Q f None k h = tt
map_whenever P Q f (Some p) k h = k p h

pub whenever_is : {A : Type 0} (P : A → Type 0) (a : Option A) (p : A) → a ≡ Some p → Whenever P a → P p
whenever_is P a p e h = subst (Whenever P) e h

-- a range that isn't empty, as the definition tells it
pub record IsCut (c s : SignedSpan) : Type 0 where
  pub is : s ≡ c
  pub ordered : c.low ≤ℤ c.high

pub signed_inhabited : (c : SignedSpan) → Whenever (IsCut c) (inhabited_signed c)
unfolding inhabited_signed
signed_inhabited c = by (int_le c.low c.high) refl
  where
    by : (t : Bool) → int_le c.low c.high ≡ t → Whenever (IsCut c) (if t then Some c else None)
    by true e = record { is = refl; ordered = omega (arith, ints, e) }
    by false e = tt

pub record IsCutSpan (c u : Span) : Type 0 where
  pub is : u ≡ c
  pub ordered : c.low ≤ c.high

pub span_inhabited : (c : Span) → Whenever (IsCutSpan c) (nonempty c)
span_inhabited c = by (nat_le c.low c.high) refl
  where
    by : (t : Bool) → nat_le c.low c.high ≡ t → Whenever (IsCutSpan c) (if t then Some c else None)
    by true e = record { is = refl; ordered = grind (arith, nat_tests, e) }
    by false e = tt

pub signed_stays : (c : SignedSpan) → c.low ≤ℤ c.high → inhabited_signed c ≡ Some c
unfolding inhabited_signed
signed_stays c h = let t : true ≡ int_le c.low c.high = omega (arith, ints, h) in rw (← t) refl

pub span_stays : (c : Span) → c.low ≤ c.high → nonempty c ≡ Some c
span_stays c h = let t : nat_le c.low c.high ≡ true = grind (arith, nat_tests, h) in rw t refl

-- a cut range lies in what it was
pub signed_cut_within : (u : Span) (s : SignedSpan) → SignedWithin (signed_cut u s) s
unfolding signed_cut
signed_cut_within u s = by (has_one_sign u)
  where
    by : (t : Bool) → SignedWithin (if t then cut_between s (cast_signed w64 u.low) (cast_signed w64 u.high) else s) s
    by true = record { from = omega (arith, ints, clamps); upto = omega (arith, ints, clamps) }
    by false = record { from = omega (arith, ints); upto = omega (arith, ints) }

pub unsigned_cut_within : (s : SignedSpan) (u : Span) → Within (unsigned_cut s u) u
unfolding unsigned_cut
unsigned_cut_within s u = by (has_one_sign_signed s)
  where
    by : (t : Bool) → Within (if t then span (max u.low (cast_unsigned w64 s.low)) (min u.high (cast_unsigned w64 s.high)) else u) u
    by true = record { from = omega arith; upto = omega arith }
    by false = record { from = omega arith; upto = omega arith }

pub narrower : (c s : SignedSpan) → IsSignedSpan s → SignedWithin c s → c.low ≤ℤ c.high → IsSignedSpan c
narrower c s h w o =
    record {
      ordered = o;
      low_fits = omega (arith, ints, h.low_fits, h.high_fits, w.from, w.upto, o);
      high_fits = omega (arith, ints, h.low_fits, h.high_fits, w.from, w.upto, o);
    }

pub narrower_span : (m : ℕ) (c u : Span) → IsSpan m u → Within c u → c.low ≤ c.high → IsSpan m c
narrower_span m c u h w o = record { ordered = o; most = omega (arith, h.most, w.upto) }

-- the greater and the less of one number is that number
signed_max_is : (y z : ℤ) → y ≤ℤ z → int_max y z ≡ z
signed_max_is y z h = omega (arith, ints, clamps, h)

signed_min_is : (y z : ℤ) → z ≤ℤ y → int_min y z ≡ z
signed_min_is y z h = omega (arith, ints, clamps, h)

-- ranges of which each is what the other leaves of it are reduced
pub fixed : (x : Limits) → IsWordLimits x → signed_cut x.unsigned x.signed ≡ x.signed → unsigned_cut x.signed x.unsigned ≡ x.unsigned → IsReduced x
unfolding reduction
fixed x h a b =
    let c = signed_stays x.signed h.readings.ordered in
    let d = span_stays x.unsigned h.words.ordered in
    rw (a, c, b, d, a, c) refl

-- what a step doesn't change
abbrev pub IsFixed : Limits → Type 0
IsFixed x = (signed_cut x.unsigned x.signed ≡ x.signed) × (unsigned_cut x.signed x.unsigned ≡ x.unsigned)

signed_unchanged : (u : Span) (s : SignedSpan) → has_one_sign u ≡ false → signed_cut u s ≡ s
unfolding signed_cut
signed_unchanged u s e = rw e refl

words_unchanged : (u : Span) (s : SignedSpan) → has_one_sign_signed s ≡ false → unsigned_cut s u ≡ u
unfolding unsigned_cut
words_unchanged u s e = rw e refl

mixed_is_fixed : (x : Limits) → AreMixed x → IsFixed x
mixed_is_fixed x m = (
  signed_unchanged x.unsigned x.signed (says_both_signs x.unsigned m.low m.high),
  words_unchanged x.unsigned x.signed (says_both_signs_signed x.signed m.signed_low m.signed_high),
)

-- words and readings that say the same
signed_by_words : (u : Span) (s : SignedSpan) → s.low ≡ cast_signed w64 u.low → s.high ≡ cast_signed w64 u.high → signed_cut u s ≡ s
unfolding signed_cut
signed_by_words u s p q = by (has_one_sign u)
  where
    by : (t : Bool) → (if t then cut_between s (cast_signed w64 u.low) (cast_signed w64 u.high) else s) ≡ s
    by true =
        let a : int_max s.low (cast_signed w64 u.low) ≡ s.low = omega (arith, ints, clamps, p) in
        let b : int_min s.high (cast_signed w64 u.high) ≡ s.high = omega (arith, ints, clamps, q) in
        λ i. record { low = a i; high = b i }
    by false = refl

words_by_signed : (u : Span) (s : SignedSpan) → u.low ≡ cast_unsigned w64 s.low → u.high ≡ cast_unsigned w64 s.high → unsigned_cut s u ≡ u
unfolding unsigned_cut
words_by_signed u s p q = by (has_one_sign_signed s)
  where
    by : (t : Bool) → (if t then span (max u.low (cast_unsigned w64 s.low)) (min u.high (cast_unsigned w64 s.high)) else u) ≡ u
    by true =
        let a : max u.low (cast_unsigned w64 s.low) ≡ u.low = omega (arith, p) in
        let b : min u.high (cast_unsigned w64 s.high) ≡ u.high = omega (arith, q) in
        λ i. record { low = a i; high = b i }
    by false = refl

alike_is_fixed : (x : Limits) → IsWordLimits x → AreAlike x → IsFixed x
alike_is_fixed x h m =
    let low = of_z-to_z w64 x.unsigned.low (omega (arith, h.words.ordered, h.words.most)) in
    let high = of_z-to_z w64 x.unsigned.high (omega (arith, h.words.most)) in (
      signed_by_words x.unsigned x.signed m.low m.high,
      words_by_signed x.unsigned x.signed (sym low ∙ ap (cast_unsigned w64) (sym m.low)) (sym high ∙ ap (cast_unsigned w64) (sym m.high)),
    )

pub agree_is_fixed : (x : Limits) → IsWordLimits x → AreAlike x ⊎ AreMixed x → IsFixed x
agree_is_fixed x h (inl k) = alike_is_fixed x h k
agree_is_fixed x h (inr k) = mixed_is_fixed x k

pub agree_is_reduced : (x : Limits) → IsWordLimits x → AreAlike x ⊎ AreMixed x → IsReduced x
agree_is_reduced x h k = let e = agree_is_fixed x h k in fixed x h e.0 e.1

-- where the readings have one sign, the last step makes both ranges say the same
record Settles (u : Span) (s : SignedSpan) : Type 0 where
  pub words : u.high < 2 ^ 64
  pub ordered : u.low ≤ u.high
  pub low : s.low ≤ℤ cast_signed w64 u.low
  pub high : cast_signed w64 u.high ≤ℤ s.high
  pub sign : (u.high < 2 ^ 63) ⊎ (2 ^ 63 ≤ u.low)

settles_alike : (u : Span) (s : SignedSpan) → Settles u s → AreAlike (limits u (signed_cut u s))
unfolding signed_cut
settles_alike u s h =
    let e = says_one_sign u h.sign in
    rw e (record { low = signed_max_is s.low (cast_signed w64 u.low) h.low; high = signed_min_is s.high (cast_signed w64 u.high) h.high })

-- in plain numbers
settled : (l h : ℕ) (s : SignedSpan) → IsSignedSpan s → (pos 0 ≤ℤ s.low) ⊎ (s.high <ℤ pos 0) → l ≤ h → h < 2 ^ 64
    → cast_unsigned w64 s.low ≤ l → h ≤ cast_unsigned w64 s.high → Settles (span l h) s
settled l h s hs (inl g) o f p q =
    let small : h < 2 ^ 63 = omega (arith, ints, g, hs.ordered, hs.high_fits, q) in
    let a = natural_reading l (omega (arith, o, small)) in
    let b = natural_reading h small in
    record {
      words = f;
      ordered = o;
      low = rw a (omega (arith, ints, g, hs.low_fits, p));
      high = rw b (omega (arith, ints, g, hs.ordered, hs.high_fits, q));
      sign = inl small;
    }
settled l h s hs (inr g) o f p q =
    let large : 2 ^ 63 ≤ l = omega (arith, ints, g, hs.ordered, hs.low_fits, p) in
    let a = negative_reading l large in
    let b = negative_reading h (omega (arith, o, large)) in
    record {
      words = f;
      ordered = o;
      low = rw a (omega (arith, ints, g, hs.ordered, hs.low_fits, p, o, f));
      high = rw b (omega (arith, ints, g, hs.high_fits, q, f));
      sign = inr large;
    }

-- the words that readings of one sign leave have that sign, and no reading outside
left_by_signed : (u : Span) (s : SignedSpan) → IsSpan (2 ^ 64 - 1) u → IsSignedSpan s → has_one_sign_signed s ≡ true
    → (unsigned_cut s u).low ≤ (unsigned_cut s u).high → Settles (unsigned_cut s u) s
unfolding unsigned_cut
left_by_signed u s hu hs e =
    rw e
    (λ o.
    settled (max u.low (cast_unsigned w64 s.low)) (min u.high (cast_unsigned w64 s.high)) s hs (one_sign_signed s e) o
    (omega (arith, hu.most)) (omega arith) (omega arith))

-- readings of both signs stay only where the words have both
mixed_words : (u : Span) (r : SignedSpan) → u.low ≤ u.high → u.high < 2 ^ 64 → (signed_cut u r).low <ℤ pos 0 → pos 0 ≤ℤ (signed_cut u r).high
    → has_one_sign u ≡ false
unfolding signed_cut
mixed_words u r o f = by (has_one_sign u) refl
  where
    no : (u.high < 2 ^ 63) ⊎ (2 ^ 63 ≤ u.low) → int_max r.low (cast_signed w64 u.low) <ℤ pos 0 → pos 0 ≤ℤ int_min r.high (cast_signed w64 u.high) → ⊥
    no (inl small) p q =
        let e = natural_reading u.low (omega (arith, o, small)) in
        omega (arith, ints, clamps, e, p)
    no (inr large) p q =
        let e = negative_reading u.high (omega (arith, o, large)) in
        omega (arith, ints, clamps, e, q)

    by : (t : Bool) → has_one_sign u ≡ t
        → (if t then cut_between r (cast_signed w64 u.low) (cast_signed w64 u.high) else r).low <ℤ pos 0
        → pos 0 ≤ℤ (if t then cut_between r (cast_signed w64 u.low) (cast_signed w64 u.high) else r).high → t ≡ false
    by true e p q = absurd (no (one_sign u e) p q)
    by false e p q = refl

-- what is left, and that reducing once more leaves it
pub record Settled (x y : Limits) : Type 0 where
  pub fits : IsWordLimits y
  pub within : LimitsWithin y x
  pub kind : AreAlike y ⊎ AreMixed y

kind_left : (u v : Span) (r s : SignedSpan) → IsSpan (2 ^ 64 - 1) u → IsSignedSpan s → IsCut (signed_cut u r) s → IsCutSpan (unsigned_cut s u) v
    → AreAlike (limits v (signed_cut v s)) ⊎ AreMixed (limits v (signed_cut v s))
kind_left u v r s hu hs c d = by (has_one_sign_signed s) refl
  where
    mixed : has_one_sign_signed s ≡ false → AreMixed (limits u (signed_cut u s))
    mixed e =
        let p = both_signs_signed s e in
        let low : (signed_cut u r).low <ℤ pos 0 = subst (λ z. z.low <ℤ pos 0) c.is p.0 in
        let high : pos 0 ≤ℤ (signed_cut u r).high = subst (λ z. pos 0 ≤ℤ z.high) c.is p.1 in
        let n = mixed_words u r hu.ordered (omega (arith, hu.most)) low high in
        let w = both_signs u n in
        let same : signed_cut u s ≡ s = signed_unchanged u s n in
        rw same (record { low = w.0; high = w.1; signed_low = p.0; signed_high = p.1 })

    by : (t : Bool) → has_one_sign_signed s ≡ t → AreAlike (limits v (signed_cut v s)) ⊎ AreMixed (limits v (signed_cut v s))
    by true e = inl (settles_alike v s (subst (λ z. Settles z s) (sym d.is) (left_by_signed u s hu hs e d.ordered)))
    by false e = inr (subst (λ z. AreMixed (limits z (signed_cut z s))) (sym (d.is ∙ words_unchanged u s e)) (mixed e))

settle : (x : Limits) (s : SignedSpan) (u : Span) (t : SignedSpan) → IsWordLimits x → IsCut (signed_cut x.unsigned x.signed) s
    → IsCutSpan (unsigned_cut s x.unsigned) u → IsCut (signed_cut u s) t → Settled x (limits u t)
settle x s u t h c d e =
    let ws : SignedWithin s x.signed = rw c.is (signed_cut_within x.unsigned x.signed) in
    let wu : Within u x.unsigned = rw d.is (unsigned_cut_within s x.unsigned) in
    let wt : SignedWithin t s = rw e.is (signed_cut_within u s) in
    let os : s.low ≤ℤ s.high = rw c.is c.ordered in
    let ou : u.low ≤ u.high = rw d.is d.ordered in
    let ot : t.low ≤ℤ t.high = rw e.is e.ordered in
    let fs = narrower s x.signed h.readings ws os in
    let fu = narrower_span (2 ^ 64 - 1) u x.unsigned h.words wu ou in
    record {
      fits = record { words = fu; readings = narrower t s fs wt ot };
      within = record { unsigned = wu; signed = record { from = omega (arith, ints, ws.from, wt.from); upto = omega (arith, ints, ws.upto, wt.upto) } };
      kind = rw e.is (kind_left x.unsigned u x.signed s h.words fs c d);
    }

pub reduced_settles : (x : Limits) → IsWordLimits x → Whenever (Settled x) (reduction x)
unfolding reduction
reduced_settles x h =
    then_whenever (IsCut (signed_cut x.unsigned x.signed)) (Settled x)
    (λ s. option_and_then (λ u. option_map (limits u) (inhabited_signed (signed_cut u s))) (nonempty (unsigned_cut s x.unsigned)))
    (inhabited_signed (signed_cut x.unsigned x.signed))
    (λ s c.
    then_whenever (IsCutSpan (unsigned_cut s x.unsigned)) (Settled x) (λ u. option_map (limits u) (inhabited_signed (signed_cut u s)))
    (nonempty (unsigned_cut s x.unsigned))
    (λ u d.
    map_whenever (IsCut (signed_cut u s)) (Settled x) (limits u) (inhabited_signed (signed_cut u s))
    (λ t e. settle x s u t h c d e) (signed_inhabited (signed_cut u s)))
    (span_inhabited (unsigned_cut s x.unsigned)))
    (signed_inhabited (signed_cut x.unsigned x.signed))

-- what reducing leaves is reduced
pub reduced_twice : (x y : Limits) → IsWordLimits x → reduction x ≡ Some y → Settled x y × IsReduced y
reduced_twice x y h e =
    let s = whenever_is (Settled x) (reduction x) y e (reduced_settles x h) in
    (s, agree_is_reduced y s.fits s.kind)

-- the three steps as the code makes them
pub made_reduced : (u v : Span) (r s t : SignedSpan) → IsSpan (2 ^ 64 - 1) u → IsSignedSpan r → Some s ≡ inhabited_signed (signed_cut u r)
    → Some v ≡ nonempty (unsigned_cut s u) → Some t ≡ inhabited_signed (signed_cut v s) → IsReduced (limits v t)
made_reduced u v r s t hu hr e f g =
    let c = whenever_is (IsCut (signed_cut u r)) (inhabited_signed (signed_cut u r)) s (sym e) (signed_inhabited (signed_cut u r)) in
    let d = whenever_is (IsCutSpan (unsigned_cut s u)) (nonempty (unsigned_cut s u)) v (sym f) (span_inhabited (unsigned_cut s u)) in
    let k = whenever_is (IsCut (signed_cut v s)) (inhabited_signed (signed_cut v s)) t (sym g) (signed_inhabited (signed_cut v s)) in
    let z = settle (limits u r) s v t (record { words = hu; readings = hr }) c d k in
    agree_is_reduced (limits v t) z.fits z.kind

-- a range whose readings may be any
any_kind : (u : Span) → IsSpan (2 ^ 64 - 1) u → IsWordLimits (any_sign u) × (AreAlike (any_sign u) ⊎ AreMixed (any_sign u))
any_kind u h = by (has_one_sign u) refl
  where
    full_fits : IsSignedSpan signed_full
    full_fits = record { ordered = omega (arith, ints); low_fits = omega (arith, ints); high_fits = omega (arith, ints) }

    by : (t : Bool) → has_one_sign u ≡ t → IsWordLimits (any_sign u) × (AreAlike (any_sign u) ⊎ AreMixed (any_sign u))
    by true e =
        let a = settles_alike u signed_full (record { words = omega (arith, h.most); ordered = h.ordered; low = omega (arith, ints); high = omega (arith, ints); sign = one_sign u e }) in
        let o = ordered_readings u.low u.high h.ordered (omega (arith, h.most)) (one_sign u e) in
        let both : (signed_cut u signed_full).low ≤ℤ (signed_cut u signed_full).high = rw (a.low, a.high) o in (
          record { words = h; readings = narrower (signed_cut u signed_full) signed_full full_fits (signed_cut_within u signed_full) both },
          inl a,
        )
    by false e =
        let w = both_signs u e in
        let same = signed_unchanged u signed_full e in (
          record { words = h; readings = rw same full_fits },
          inr (record { low = w.0; high = w.1; signed_low = rw same (omega (arith, ints)); signed_high = rw same (omega (arith, ints)) }),
        )

pub any_fits : (u : Span) → IsSpan (2 ^ 64 - 1) u → IsLimits (any_sign u)
any_fits u h =
    let k = any_kind u h in
    record { words = k.0.words; readings = k.0.readings; reduced = agree_is_reduced (any_sign u) k.0 k.1 }

-- the words of a range, with all readings, are reduced at the first step
pub any_reduces : (u : Span) → IsSpan (2 ^ 64 - 1) u → reduction (limits u signed_full) ≡ Some (any_sign u)
unfolding reduction
any_reduces u h =
    let k = any_kind u h in
    let e = agree_is_fixed (any_sign u) k.0 k.1 in
    steps (signed_cut u signed_full) (signed_stays (signed_cut u signed_full) k.0.readings.ordered) e.0 e.1 (span_stays u h.ordered)
  where
    steps : (s : SignedSpan) → inhabited_signed s ≡ Some s → signed_cut u s ≡ s → unsigned_cut s u ≡ u → nonempty u ≡ Some u
        → option_and_then (λ r. option_and_then (λ v. option_map (limits v) (inhabited_signed (signed_cut v r))) (nonempty (unsigned_cut r u))) (inhabited_signed s)
        ≡ Some (limits u s)
    steps s c a b d = rw (c, b, d, a, c) refl

-- a range that isn't cut is left as it is
pub uncut_stays : (u : Span) (s : SignedSpan) → has_one_sign u ≡ false → s.low ≤ℤ s.high → Some s ≡ inhabited_signed (signed_cut u s)
uncut_stays u s e o = sym (ap inhabited_signed (signed_unchanged u s e) ∙ signed_stays s o)
