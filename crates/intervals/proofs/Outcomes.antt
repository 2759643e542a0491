-- The limits of results and of edges, from the laws of both ranges.
use Rattle.std.proofs.Common.{ℕ, ◌≡◌, ◌+◌, ◌-◌, ◌^◌, ◌<◌, ◌≤◌, Bool, true, false, Option, None, Some, ℤ, pos, refl, sym, ◌∙◌, ap, subst, inl, inr, if◌then◌else◌, arith}
use Rattle.std.specs.Prelude.{◌≤ℤ◌, ◌⊎◌}
use Rattle.std.specs.Option.{option_map, option_and_then, IsSomeAnd}
use Rattle.std.specs.Int.{cast_signed, w64}
use Rattle.std.proofs.lemmas.Int.{ints}
use Rattle.bpf_isa.specs.declared.instr.Instr.{Instr}
use Rattle.bpf_isa.specs.declared.instr.Instr.TheVariants as instr
use Rattle.bpf_isa.specs.declared.instr.Source.{Source}
use Rattle.bpf_isa.specs.declared.instr.Width.{Width}
use Rattle.bpf_isa.specs.declared.instr.Width.TheVariants as width
use Rattle.bpf_isa.specs.declared.instr.Operator.TheVariants as op
use Rattle.bpf_isa.specs.declared.instr.Condition.{Condition}
use Rattle.machine.specs.Arithmetic.{arithmetic, sign_extension, in_order, holds}
use Rattle.intervals.specs.Spans.{Span, span, only, IsSpan, Has, Within}
use Rattle.intervals.specs.Results.{result_of}
use Rattle.intervals.specs.Edges.{condition_edge, is_same}
use Rattle.intervals.specs.Laws.{IsWordSpan, HasResult, FitsWords, WithinOne, Leaves, Shrinks, WithinBoth, ResultsCover, ResultsFit, ResultsAreMonotone}
use Rattle.intervals.specs.SignedSpans.{SignedSpan, signed_span, signed_full, IsSignedSpan, HasSigned, SignedWithin}
use Rattle.intervals.specs.Reducing.{Limits, limits, HasWord, LimitsWithin, reduction, IsReduced, IsWordLimits, IsLimits, any_sign}
use Rattle.intervals.specs.SignedResults.{signed_result_of, limits_result_of}
use Rattle.intervals.specs.SignedEdges.{both_of, signed_narrowed, limits_narrowed, limits_refined}
use Rattle.intervals.specs.LimitLaws.{Related, BothWithin, LimitResultsCover, LimitResultsFit, LimitResultsAreMonotone, LimitRefinementsCover, LimitRefinementsFit, LimitRefinementsAreMonotone}
use Rattle.intervals.proofs.Reduced.{Whenever, whenever_is, Settled, reduced_settles, reduced_twice, agree_is_reduced, any_reduces}
use Rattle.intervals.proofs.Smaller.{reduced_related, reduced_has_within}
use Rattle.intervals.proofs.SignedSums.{signed_result_has, signed_result_fits, signed_result_mono, full_reading}
use Rattle.intervals.proofs.Edges.{narrowed_leaves, narrowed_shrinks, narrowed_mono}
use Rattle.intervals.proofs.SignedOrders.{HasTwo, TwoWithin, TwoOf, signed_narrowed_leaves, signed_narrowed_two, signed_narrowed_mono}

-- the limits of one word
abbrev pub point : ℕ → Limits
point a = limits (only a) (signed_span (cast_signed w64 a) (cast_signed w64 a))

point_fits : (a : ℕ) → a < 2 ^ 64 → IsWordLimits (point a)
point_fits a h =
    record {
      words = record { ordered = omega arith; most = omega (arith, h) };
      readings = record { ordered = omega (arith, ints); low_fits = omega (arith, ints); high_fits = omega (arith, ints) };
    }

point_is_reduced : (a : ℕ) → a < 2 ^ 64 → IsReduced (point a)
point_is_reduced a h = agree_is_reduced (point a) (point_fits a h) (inl (record { low = refl; high = refl }))

point_within : (x : Limits) (a : ℕ) → HasWord x a → LimitsWithin (point a) x
point_within x a h =
    record {
      unsigned = record { from = h.word.from; upto = h.word.upto };
      signed = record { from = h.reading.from; upto = h.reading.upto };
    }

pub within_has : (x y : Limits) (a : ℕ) → LimitsWithin x y → HasWord x a → HasWord y a
within_has x y a w h =
    record {
      word = record { from = omega (arith, w.unsigned.from, h.word.from); upto = omega (arith, w.unsigned.upto, h.word.upto) };
      reading = record { from = omega (arith, ints, w.signed.from, h.reading.from); upto = omega (arith, ints, w.signed.upto, h.reading.upto) };
    }

word_fits : (x : Limits) (a : ℕ) → IsWordLimits x → HasWord x a → a < 2 ^ 64
word_fits x a h k = omega (arith, h.words.most, k.word.upto)

-- a word of both ranges stays: its own limits are reduced, and lie in what is left
pub reduced_has : (x : Limits) (a : ℕ) → IsWordLimits x → HasWord x a → IsSomeAnd (reduction x) (λ y. HasWord y a)
reduced_has x a hx k =
    let f = word_fits x a hx k in
    weaken (reduction x) (reduced_has_within (point a) x (point_fits a f) hx (point_is_reduced a f) (point_within x a k))
  where
    weaken : (r : Option Limits) → IsSomeAnd r (λ z. LimitsWithin (point a) z) → IsSomeAnd r (λ z. HasWord z a)
    weaken None h = absurd h
    weaken (Some z) h =
        record { word = record { from = h.unsigned.from; upto = h.unsigned.upto }; reading = record { from = h.signed.from; upto = h.signed.upto } }

pub limits_from_settled : (x y : Limits) → Settled x y → IsLimits y
limits_from_settled x y s = record { words = s.fits.words; readings = s.fits.readings; reduced = agree_is_reduced y s.fits s.kind }

-- results

result_has : (r : Option Span) (s : SignedSpan) (c : ℕ) → FitsWords r → IsSignedSpan s → HasResult r c → HasSigned s (cast_signed w64 c)
    → IsSomeAnd (option_and_then (λ u. reduction (limits u s)) r) (λ z. HasWord z c)
result_has None s c f hs h k = absurd h
result_has (Some u) s c f hs h k = reduced_has (limits u s) c (record { words = f; readings = hs }) (record { word = h; reading = k })

full_fits : IsSignedSpan signed_full
full_fits = record { ordered = omega (arith, ints); low_fits = omega (arith, ints); high_fits = omega (arith, ints) }

pub results_cover_limits : ResultsCover → ResultsFit → LimitResultsCover
unfolding limits_result_of signed_result_of result_of
results_cover_limits covers fit =
    record {
      operators =
          λ w o dst from x y a b hx hy ka kb.
          result_has (result_of (instr.Arithmetic w o dst from) x.unsigned y.unsigned)
          (signed_result_of (instr.Arithmetic w o dst from) x.signed y.signed) (arithmetic w o a b)
          (fit (instr.Arithmetic w o dst from) x.unsigned y.unsigned hx.words hy.words)
          (signed_result_fits (instr.Arithmetic w o dst from) x.signed y.signed hx.readings hy.readings)
          (covers.operators w o dst from x.unsigned y.unsigned a b hx.words hy.words ka.word kb.word)
          (signed_result_has w o dst from x.signed y.signed a b (word_fits x a hx ka) (word_fits y b hy kb) ka.reading kb.reading);
      opposites =
          λ w dst x y a hx ka.
          result_has (result_of (instr.Negate w dst) x.unsigned x.unsigned) signed_full (arithmetic w op.Sub 0 a)
          (fit (instr.Negate w dst) x.unsigned x.unsigned hx.words hx.words) full_fits
          (covers.opposites w dst x.unsigned x.unsigned a hx.words ka.word) (full_reading (arithmetic w op.Sub 0 a));
      signs =
          λ e dst src x y b hy kb.
          result_has (result_of (instr.SignExtend e dst src) y.unsigned y.unsigned) signed_full (sign_extension e b)
          (fit (instr.SignExtend e dst src) y.unsigned y.unsigned hy.words hy.words) full_fits
          (covers.signs e dst src y.unsigned y.unsigned b hy.words kb.word) (full_reading (sign_extension e b));
      orders =
          λ o size dst x y a hx ka.
          result_has (result_of (instr.ByteOrder o size dst) x.unsigned x.unsigned) signed_full (in_order o size a)
          (fit (instr.ByteOrder o size dst) x.unsigned x.unsigned hx.words hx.words) full_fits
          (covers.orders o size dst x.unsigned x.unsigned a hx.words ka.word) (full_reading (in_order o size a));
    }

pub results_fit_limits : ResultsFit → LimitResultsFit
unfolding limits_result_of
results_fit_limits fit i x y z hx hy e =
    done (result_of i x.unsigned y.unsigned) (signed_result_of i x.signed y.signed) (fit i x.unsigned y.unsigned hx.words hy.words)
    (signed_result_fits i x.signed y.signed hx.readings hy.readings) e
  where
    done : (r : Option Span) (s : SignedSpan) → FitsWords r → IsSignedSpan s → option_and_then (λ u. reduction (limits u s)) r ≡ Some z → IsLimits z
    done None s f hs e = absurd (let bad : None ≡ Some z = e in cc)
    done (Some u) s f hs e = limits_from_settled (limits u s) z (reduced_twice (limits u s) z (record { words = f; readings = hs }) e).0

pub results_mono_limits : ResultsAreMonotone → ResultsFit → LimitResultsAreMonotone
unfolding limits_result_of
results_mono_limits mono fit i x y s t hx hy hs ht wx wy =
    step (result_of i x.unsigned y.unsigned) (result_of i s.unsigned t.unsigned) (signed_result_of i x.signed y.signed) (signed_result_of i s.signed t.signed)
    (fit i x.unsigned y.unsigned hx.words hy.words) (fit i s.unsigned t.unsigned hs.words ht.words)
    (signed_result_fits i x.signed y.signed hx.readings hy.readings) (signed_result_fits i s.signed t.signed hs.readings ht.readings)
    (mono i x.unsigned y.unsigned s.unsigned t.unsigned hx.words hy.words hs.words ht.words wx.unsigned wy.unsigned)
    (signed_result_mono i x.signed y.signed s.signed t.signed wx.signed wy.signed)
  where
    step : (p q : Option Span) (l m : SignedSpan) → FitsWords p → FitsWords q → IsSignedSpan l → IsSignedSpan m → WithinOne p q → SignedWithin l m
        → Related LimitsWithin (option_and_then (λ u. reduction (limits u l)) p) (option_and_then (λ v. reduction (limits v m)) q)
    step None q l m f g hl hm w z = tt
    step (Some u) None l m f g hl hm w z = absurd w
    step (Some u) (Some v) l m f g hl hm w z =
        reduced_related (limits u l) (limits v m) (record { words = f; readings = hl }) (record { words = g; readings = hm }) (record { unsigned = w; signed = z })

-- edges

pair_has : (l r : Option Limits) (a b : ℕ) → IsSomeAnd l (λ z. HasWord z a) → IsSomeAnd r (λ z. HasWord z b)
    → IsSomeAnd (both_of l r) (λ p. HasWord p.0 a × HasWord p.1 b)
pair_has None r a b h k = absurd h
pair_has (Some l) None a b h k = absurd k
pair_has (Some l) (Some r) a b h k = (h, k)

edge_has : (o : Option (Span × Span)) (q : Option (SignedSpan × SignedSpan)) (x y : Limits) (a b : ℕ) → Leaves o a b → Shrinks o x.unsigned y.unsigned
    → IsSomeAnd q (HasTwo (cast_signed w64 a) (cast_signed w64 b)) → Whenever (TwoOf x.signed y.signed) q
    → IsSomeAnd (option_and_then (λ u. option_and_then (λ s. both_of (reduction (limits u.0 s.0)) (reduction (limits u.1 s.1))) q) o) (λ p. HasWord p.0 a × HasWord p.1 b)
edge_has None q x y a b h f k g = absurd h
edge_has (Some u) None x y a b h f k g = absurd k
edge_has (Some u) (Some s) x y a b h f k g =
    pair_has (reduction (limits u.0 s.0)) (reduction (limits u.1 s.1)) a b
    (reduced_has (limits u.0 s.0) a (record { words = f.0; readings = g.0 }) (record { word = h.0; reading = k.0 }))
    (reduced_has (limits u.1 s.1) b (record { words = f.1; readings = g.1 }) (record { word = h.1; reading = k.1 }))

has_either : (t : Bool) (p q : Option (Limits × Limits)) (a b : ℕ) → IsSomeAnd p (λ r. HasWord r.0 a × HasWord r.1 b) → IsSomeAnd q (λ r. HasWord r.0 a × HasWord r.1 b)
    → IsSomeAnd (if t then p else q) (λ r. HasWord r.0 a × HasWord r.1 b)
has_either true p q a b h k = h
has_either false p q a b h k = k

narrowed_has : (c : Condition) (taken : Bool) (x y : Limits) (a b : ℕ) → IsWordLimits x → IsWordLimits y → HasWord x a → HasWord y b
    → holds width.W64 c a b ≡ taken → IsSomeAnd (limits_narrowed c taken x y) (λ p. HasWord p.0 a × HasWord p.1 b)
unfolding limits_narrowed holds
narrowed_has c taken x y a b hx hy ka kb e =
    edge_has (condition_edge c taken x.unsigned y.unsigned) (signed_narrowed c taken x.signed y.signed) x y a b
    (narrowed_leaves c taken x.unsigned y.unsigned a b ka.word kb.word e) (narrowed_shrinks c taken x.unsigned y.unsigned hx.words hy.words)
    (signed_narrowed_leaves c taken x.signed y.signed a b ka.reading kb.reading e) (signed_narrowed_two c taken x.signed y.signed hx.readings hy.readings)

pub refined_has : LimitRefinementsCover
unfolding limits_refined
refined_has width.W32 c dst from offset taken x y a b hx hy ka kb e = (ka, kb)
refined_has width.W64 c dst from offset taken x y a b hx hy ka kb e =
    has_either (is_same dst from) (Some (x, y)) (limits_narrowed c taken x y) a b (ka, kb) (narrowed_has c taken x y a b hx hy ka kb e)

-- what an edge leaves of two limits
abbrev pub Left : Limits → Limits → Limits × Limits → Type 0
Left x y p = IsLimits p.0 × IsLimits p.1 × LimitsWithin p.0 x × LimitsWithin p.1 y

within_twice : (x y z : Limits) → LimitsWithin x y → LimitsWithin y z → LimitsWithin x z
within_twice x y z v w =
    record {
      unsigned = record { from = omega (arith, v.unsigned.from, w.unsigned.from); upto = omega (arith, v.unsigned.upto, w.unsigned.upto) };
      signed = record { from = omega (arith, ints, v.signed.from, w.signed.from); upto = omega (arith, ints, v.signed.upto, w.signed.upto) };
    }

pair_left : (x y m n : Limits) (l r : Option Limits) → LimitsWithin m x → LimitsWithin n y → Whenever (Settled m) l → Whenever (Settled n) r
    → Whenever (Left x y) (both_of l r)
pair_left x y m n None r v w h k = tt
pair_left x y m n (Some l) None v w h k = tt
pair_left x y m n (Some l) (Some r) v w h k =
    (limits_from_settled m l h, limits_from_settled n r k, within_twice l m x h.within v, within_twice r n y k.within w)

edge_left : (o : Option (Span × Span)) (q : Option (SignedSpan × SignedSpan)) (x y : Limits) → Shrinks o x.unsigned y.unsigned
    → Whenever (TwoOf x.signed y.signed) q
    → Whenever (Left x y) (option_and_then (λ u. option_and_then (λ s. both_of (reduction (limits u.0 s.0)) (reduction (limits u.1 s.1))) q) o)
edge_left None q x y f g = tt
edge_left (Some u) None x y f g = tt
edge_left (Some u) (Some s) x y f g =
    pair_left x y (limits u.0 s.0) (limits u.1 s.1) (reduction (limits u.0 s.0)) (reduction (limits u.1 s.1))
    (record { unsigned = f.2; signed = g.2 }) (record { unsigned = f.3; signed = g.3 })
    (reduced_settles (limits u.0 s.0) (record { words = f.0; readings = g.0 })) (reduced_settles (limits u.1 s.1) (record { words = f.1; readings = g.1 }))

left_either : (t : Bool) (x y : Limits) (p q : Option (Limits × Limits)) → Whenever (Left x y) p → Whenever (Left x y) q → Whenever (Left x y) (if t then p else q)
left_either true x y p q h k = h
left_either false x y p q h k = k

narrowed_left : (c : Condition) (taken : Bool) (x y : Limits) → IsWordLimits x → IsWordLimits y → Whenever (Left x y) (limits_narrowed c taken x y)
unfolding limits_narrowed
narrowed_left c taken x y hx hy =
    edge_left (condition_edge c taken x.unsigned y.unsigned) (signed_narrowed c taken x.signed y.signed) x y
    (narrowed_shrinks c taken x.unsigned y.unsigned hx.words hy.words) (signed_narrowed_two c taken x.signed y.signed hx.readings hy.readings)

within_self : (x : Limits) → LimitsWithin x x
within_self x =
    record {
      unsigned = record { from = omega arith; upto = omega arith };
      signed = record { from = omega (arith, ints); upto = omega (arith, ints) };
    }

refined_left : (i : Instr) (taken : Bool) (x y : Limits) → IsLimits x → IsLimits y → Whenever (Left x y) (limits_refined i taken x y)
unfolding limits_refined
refined_left (instr.Branch width.W64 c dst from offset) taken x y hx hy =
    left_either (is_same dst from) x y (Some (x, y)) (limits_narrowed c taken x y) (hx, hy, within_self x, within_self y)
    (narrowed_left c taken x y (record { words = hx.words; readings = hx.readings }) (record { words = hy.words; readings = hy.readings }))
refined_left (instr.Branch width.W32 c dst from offset) taken x y hx hy = (hx, hy, within_self x, within_self y)
refined_left _ taken x y hx hy = (hx, hy, within_self x, within_self y)

pub refined_fits : LimitRefinementsFit
refined_fits i taken x y p hx hy e = whenever_is (Left x y) (limits_refined i taken x y) p e (refined_left i taken x y hx hy)

pair_within : (l m n r : Option Limits) → Related LimitsWithin l n → Related LimitsWithin m r → Related BothWithin (both_of l m) (both_of n r)
pair_within None m n r h k = tt
pair_within (Some l) None n r h k = tt
pair_within (Some l) (Some m) None r h k = absurd h
pair_within (Some l) (Some m) (Some n) None h k = absurd k
pair_within (Some l) (Some m) (Some n) (Some r) h k = (h, k)

edge_within : (o p : Option (Span × Span)) (q r : Option (SignedSpan × SignedSpan)) (x y s t : Limits) → Shrinks o x.unsigned y.unsigned
    → Shrinks p s.unsigned t.unsigned → Whenever (TwoOf x.signed y.signed) q → Whenever (TwoOf s.signed t.signed) r → WithinBoth o p → Related TwoWithin q r
    → Related BothWithin (option_and_then (λ u. option_and_then (λ z. both_of (reduction (limits u.0 z.0)) (reduction (limits u.1 z.1))) q) o)
    (option_and_then (λ u. option_and_then (λ z. both_of (reduction (limits u.0 z.0)) (reduction (limits u.1 z.1))) r) p)
edge_within None p q r x y s t f g h k v w = tt
edge_within (Some u) None q r x y s t f g h k v w = absurd v
edge_within (Some u) (Some v) None r x y s t f g h k a w = tt
edge_within (Some u) (Some v) (Some z) None x y s t f g h k a w = absurd w
edge_within (Some u) (Some v) (Some y) (Some z) xs ys s t f g h k a w =
    pair_within (reduction (limits u.0 y.0)) (reduction (limits u.1 y.1)) (reduction (limits v.0 z.0)) (reduction (limits v.1 z.1))
    (reduced_related (limits u.0 y.0) (limits v.0 z.0) (record { words = f.0; readings = h.0 }) (record { words = g.0; readings = k.0 }) (record { unsigned = a.0; signed = w.0 }))
    (reduced_related (limits u.1 y.1) (limits v.1 z.1) (record { words = f.1; readings = h.1 }) (record { words = g.1; readings = k.1 }) (record { unsigned = a.1; signed = w.1 }))

narrowed_within : (c : Condition) (taken : Bool) (x y s t : Limits) → IsWordLimits x → IsWordLimits y → IsWordLimits s → IsWordLimits t
    → LimitsWithin x s → LimitsWithin y t → Related BothWithin (limits_narrowed c taken x y) (limits_narrowed c taken s t)
unfolding limits_narrowed
narrowed_within c taken x y s t hx hy hs ht wx wy =
    edge_within (condition_edge c taken x.unsigned y.unsigned) (condition_edge c taken s.unsigned t.unsigned) (signed_narrowed c taken x.signed y.signed)
    (signed_narrowed c taken s.signed t.signed) x y s t (narrowed_shrinks c taken x.unsigned y.unsigned hx.words hy.words)
    (narrowed_shrinks c taken s.unsigned t.unsigned hs.words ht.words) (signed_narrowed_two c taken x.signed y.signed hx.readings hy.readings)
    (signed_narrowed_two c taken s.signed t.signed hs.readings ht.readings)
    (narrowed_mono c taken x.unsigned y.unsigned s.unsigned t.unsigned hx.words hy.words wx.unsigned wy.unsigned)
    (signed_narrowed_mono c taken x.signed y.signed s.signed t.signed wx.signed wy.signed)

within_either : (b : Bool) (p q r s : Option (Limits × Limits)) → Related BothWithin p r → Related BothWithin q s
    → Related BothWithin (if b then p else q) (if b then r else s)
within_either true p q r s h k = h
within_either false p q r s h k = k

pub refined_mono : LimitRefinementsAreMonotone
unfolding limits_refined
refined_mono (instr.Branch width.W64 c dst from offset) taken x y s t hx hy hs ht wx wy =
    within_either (is_same dst from) (Some (x, y)) (limits_narrowed c taken x y) (Some (s, t)) (limits_narrowed c taken s t) (wx, wy)
    (narrowed_within c taken x y s t hx hy hs ht wx wy)
refined_mono (instr.Branch width.W32 c dst from offset) taken x y s t hx hy hs ht wx wy = (wx, wy)
refined_mono _ taken x y s t hx hy hs ht wx wy = (wx, wy)

-- reducing

pub reduces_words : (x : Limits) (a : ℕ) → IsWordLimits x → IsSomeAnd (reduction x) (λ y. HasWord y a) → HasWord x a
reduces_words x a hx k = back (reduction x) (reduced_settles x hx) k
  where
    back : (r : Option Limits) → Whenever (Settled x) r → IsSomeAnd r (λ y. HasWord y a) → HasWord x a
    back None s h = absurd h
    back (Some y) s h = within_has y x a s.within h

-- the words of a range, whatever their readings are

pub any_holds : (x : Limits) (u : Span) → IsLimits x → IsWordSpan u → Within x.unsigned u → LimitsWithin x (any_sign u)
any_holds x u hx hu w =
    let readings : SignedWithin x.signed signed_full = record { from = omega (arith, ints, hx.readings.low_fits); upto = omega (arith, ints, hx.readings.high_fits) } in
    let k : IsSomeAnd (reduction (limits u signed_full)) (λ y. LimitsWithin x y) =
    reduced_has_within x (limits u signed_full) (record { words = hx.words; readings = hx.readings }) (record { words = hu; readings = full_fits })
    hx.reduced (record { unsigned = w; signed = readings }) in
    subst (λ r. IsSomeAnd r (λ y. LimitsWithin x y)) (any_reduces u hu) k

pub any_has : (u : Span) (a : ℕ) → IsWordSpan u → Has u a → HasWord (any_sign u) a
any_has u a h k =
    subst (λ r. IsSomeAnd r (λ y. HasWord y a)) (any_reduces u h)
    (reduced_has (limits u signed_full) a (record { words = h; readings = full_fits }) (record { word = k; reading = full_reading a }))
