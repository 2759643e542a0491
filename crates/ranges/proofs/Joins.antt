-- The order of abstract values.
use Rattle.std.proofs.Common.{◌≡◌, ℕ, ◌-◌, ◌^◌, ◌==◌, Bool, true, false, if◌then◌else◌, inl, inr, min, max, refl, sym, ◌∙◌, arith, ap, subst}
use Rattle.std.proofs.lemmas.Bool.Decides.{eqb_tells}
use Rattle.intervals.specs.Spans.{Span, IsSpan, Within, hull}
use Rattle.intervals.proofs.Digits.{rounded_within, rounded_mono}
use Rattle.intervals.proofs.SignedDigits.{rounded_is, limits_rounded_mono}
use Rattle.intervals.proofs.CallerLemmas.{hull_has_first, hull_has_other, hull_is_below, hull_is_first}
use Rattle.ranges.specs.Kinds.{Kind, Unset, Word, Num, Ctx, Stack, Sector, SectorOrNull, join, round, Contains}
use Rattle.ranges.specs.Order.{Under, IsWord, IsBounded}

hull_first : (x y : Span) → Within x (hull x y)
hull_first x y = record { from = omega arith; upto = omega arith }

hull_other : (x y : Span) → Within y (hull x y)
hull_other x y = record { from = omega arith; upto = omega arith }

hull_least : (x y z : Span) → Within x z → Within y z → Within (hull x y) z
hull_least x y z p q = record { from = omega (arith, p.from, q.from); upto = omega (arith, p.upto, q.upto) }

hull_same : (x y : Span) → Within y x → hull x y ≡ x
hull_same x y w =
    let low : min x.low y.low ≡ x.low = omega (arith, w.from) in
    let high : max x.high y.high ≡ x.high = omega (arith, w.upto) in
    λ i. record { low = low i; high = high i }

-- a test of two offsets
same_tested : (a b : ℕ) → a ≡ b → (a == b) ≡ true
same_tested a b e = elim (eqb_tells a b) [ inl t ↦ t.0 | inr f ↦ absurd (f.1 e) ]

first_context : (b : Bool) (a : ℕ) → Under (Ctx a) (if b then Ctx a else Word)
first_context true a = refl
first_context false a = tt

first_stack : (b : Bool) (a : ℕ) → Under (Stack a) (if b then Stack a else Word)
first_stack true a = refl
first_stack false a = tt

pub join_first : (k l : Kind) → Under k (join k l)
unfolding join
join_first (Num x) (Num y) = hull_has_first x y
join_first (Ctx a) (Ctx b) = first_context (a == b) a
join_first (Stack a) (Stack b) = first_stack (a == b) a
join_first (Sector x) (Sector y) = hull_first x y
join_first SectorOrNull SectorOrNull = tt
join_first Word Unset = tt
join_first _ _ = tt

pub join_other : (k l : Kind) → Under l (join k l)
unfolding join
join_other (Num x) (Num y) = hull_has_other x y
join_other (Ctx a) (Ctx b) = elim (eqb_tells a b) [ inl t ↦ rw t.0 (sym t.1) | inr f ↦ rw f.0 tt ]
join_other (Stack a) (Stack b) = elim (eqb_tells a b) [ inl t ↦ rw t.0 (sym t.1) | inr f ↦ rw f.0 tt ]
join_other (Sector x) (Sector y) = hull_other x y
join_other SectorOrNull SectorOrNull = tt
join_other Word Unset = tt
join_other _ _ = tt

words_context : (b : Bool) (a : ℕ) → IsWord (if b then Ctx a else Word)
words_context true a = tt
words_context false a = tt

words_stack : (b : Bool) (a : ℕ) → IsWord (if b then Stack a else Word)
words_stack true a = tt
words_stack false a = tt

join_words : (k l : Kind) → IsWord k → IsWord l → IsWord (join k l)
unfolding join
join_words Unset l p q = absurd p
join_words k Unset p q = absurd q
join_words (Ctx a) (Ctx b) p q = words_context (a == b) a
join_words (Stack a) (Stack b) p q = words_stack (a == b) a
join_words _ _ p q = tt

pub join_least : (k l m : Kind) → Under k m → Under l m → Under (join k l) m
unfolding join
join_least k l Unset p q = tt
join_least k l Word p q = join_words k l p q
join_least (Num x) (Num y) (Num z) p q = hull_is_below x y z p q
join_least (Num x) l (Num z) p q = absurd q
join_least k l (Num z) p q = absurd p
join_least (Ctx a) (Ctx b) (Ctx c) p q = rw (same_tested a b (p ∙ sym q)) p
join_least (Ctx a) l (Ctx c) p q = absurd q
join_least k l (Ctx c) p q = absurd p
join_least (Stack a) (Stack b) (Stack c) p q = rw (same_tested a b (p ∙ sym q)) p
join_least (Stack a) l (Stack c) p q = absurd q
join_least k l (Stack c) p q = absurd p
join_least (Sector x) (Sector y) (Sector z) p q = hull_least x y z p q
join_least (Sector x) l (Sector z) p q = absurd q
join_least k l (Sector z) p q = absurd p
join_least SectorOrNull SectorOrNull SectorOrNull p q = tt
join_least SectorOrNull l SectorOrNull p q = absurd q
join_least k l SectorOrNull p q = absurd p

pub under_contains : (k l : Kind) → Under l k → Contains k l
unfolding join
under_contains Unset l p = refl
under_contains Word Unset p = absurd p
under_contains Word l p = refl
under_contains (Num x) (Num y) p = ap (λ z. Num z) (hull_is_first x y p)
under_contains (Num x) l p = absurd p
under_contains (Ctx a) (Ctx b) p = rw (same_tested a b (sym p)) refl
under_contains (Ctx a) l p = absurd p
under_contains (Stack a) (Stack b) p = rw (same_tested a b (sym p)) refl
under_contains (Stack a) l p = absurd p
under_contains (Sector x) (Sector y) p = ap (λ z. Sector z) (hull_same x y p)
under_contains (Sector x) l p = absurd p
under_contains SectorOrNull SectorOrNull p = refl
under_contains SectorOrNull l p = absurd p

pub contains_under : (k l : Kind) → Contains k l → Under l k
contains_under k l e = subst (λ m. Under l m) e (join_other k l)

word_span : (x : Span) → IsSpan 65535 x → IsSpan (2 ^ 64 - 1) x
word_span x h = record { ordered = h.ordered; most = omega (arith, h.most) }

pub round_under : (k : Kind) → IsBounded k → Under k (round k)
unfolding round
round_under Unset h = tt
round_under Word h = tt
round_under (Num x) h = (rounded_is x h).within
round_under (Ctx a) h = refl
round_under (Stack a) h = refl
round_under (Sector x) h = rounded_within x (word_span x h)
round_under SectorOrNull h = tt

round_word : (k : Kind) → IsWord k → IsWord (round k)
unfolding round
round_word Unset p = absurd p
round_word _ p = tt

pub round_mono : (k l : Kind) → IsBounded k → IsBounded l → Under k l → Under (round k) (round l)
unfolding round
round_mono k Unset h g p = tt
round_mono k Word h g p = round_word k p
round_mono (Num x) (Num y) h g p = limits_rounded_mono x y h g p
round_mono k (Num y) h g p = absurd p
round_mono (Ctx a) (Ctx b) h g p = p
round_mono k (Ctx b) h g p = absurd p
round_mono (Stack a) (Stack b) h g p = p
round_mono k (Stack b) h g p = absurd p
round_mono (Sector x) (Sector y) h g p = rounded_mono x y (word_span x h) (word_span y g) p
round_mono k (Sector y) h g p = absurd p
round_mono SectorOrNull SectorOrNull h g p = tt
round_mono k SectorOrNull h g p = absurd p
