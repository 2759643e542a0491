-- The edges of conditional jumps over signed ranges: what they leave, and that smaller ranges leave
-- smaller ones.
use Rattle.std.proofs.Common.{ℕ, ◌≡◌, Bool, true, false, Option, None, Some, ℤ, pos, refl, sym, ap, subst, if◌then◌else◌, arith}
use Rattle.std.specs.Prelude.{◌≤ℤ◌, ◌<ℤ◌, ◌+ℤ◌, ◌-ℤ◌, int_le, int_lt}
use Rattle.std.specs.Option.{option_map, option_and_then, IsSomeAnd}
use Rattle.std.specs.Int.{cast_signed, int_min, int_max, w64}
use Rattle.std.specs.Int.RustNames.{FitsSigned}
use Rattle.std.proofs.lemmas.Bool.Decides.{nat_tests}
use Rattle.std.proofs.lemmas.Int.{ints, clamps}
use Rattle.bpf_isa.specs.declared.instr.Width.TheVariants as width
use Rattle.bpf_isa.specs.declared.instr.Condition.{Condition}
use Rattle.bpf_isa.specs.declared.instr.Condition.TheVariants as cond
use Rattle.machine.specs.Arithmetic.{condition_holds}
use Rattle.intervals.specs.SignedSpans.{SignedSpan, IsSignedSpan, HasSigned, SignedWithin, inhabited_signed, not_below, not_above, cut_between}
use Rattle.intervals.specs.SignedEdges.{both_of, both_signed, signed_equal, signed_above, signed_at_most, signed_at_least, signed_below, signed_narrowed}
use Rattle.intervals.specs.LimitLaws.{Related}
use Rattle.intervals.proofs.Reduced.{Whenever, IsCut, signed_inhabited, signed_stays, narrower, then_whenever, map_whenever}
use Rattle.intervals.proofs.Smaller.{then_related, map_related, BothCut, signed_inhabited_related}

-- the two numbers of an edge
abbrev pub HasTwo : ℤ → ℤ → SignedSpan × SignedSpan → Type 0
HasTwo y z p = HasSigned p.0 y × HasSigned p.1 z

-- the two ranges of an edge lie in those of another
abbrev pub TwoWithin : SignedSpan × SignedSpan → SignedSpan × SignedSpan → Type 0
TwoWithin p q = SignedWithin p.0 q.0 × SignedWithin p.1 q.1

-- the two ranges of an edge are ranges, and lie in those before
abbrev pub TwoOf : SignedSpan → SignedSpan → SignedSpan × SignedSpan → Type 0
TwoOf x y p = IsSignedSpan p.0 × IsSignedSpan p.1 × SignedWithin p.0 x × SignedWithin p.1 y

both_leave : (p q : SignedSpan) (y z : ℤ) → HasSigned p y → HasSigned q z → IsSomeAnd (both_signed p q) (HasTwo y z)
both_leave p q y z h k =
    let a = signed_stays p (omega (arith, ints, h.from, h.upto)) in
    let b = signed_stays q (omega (arith, ints, k.from, k.upto)) in
    rw (a, b) (h, k)

both_within : (p q r s : SignedSpan) → SignedWithin p r → SignedWithin q s → Related TwoWithin (both_signed p q) (both_signed r s)
both_within p q r s a b =
    then_related (BothCut p r) TwoWithin (λ x. option_map (λ y. (x, y)) (inhabited_signed q)) (λ x. option_map (λ y. (x, y)) (inhabited_signed s))
    (inhabited_signed p) (inhabited_signed r)
    (λ x z c.
    map_related (BothCut q s) TwoWithin (λ y. (x, y)) (λ y. (z, y)) (inhabited_signed q) (inhabited_signed s)
    (λ y w d.
    let left : SignedWithin x z = rw (c.0.is, c.1.is) a in
    let right : SignedWithin y w = rw (d.0.is, d.1.is) b in
    (left, right))
    (signed_inhabited_related q s b))
    (signed_inhabited_related p r a)

both_two : (x y p q : SignedSpan) → IsSignedSpan x → IsSignedSpan y → SignedWithin p x → SignedWithin q y → Whenever (TwoOf x y) (both_signed p q)
both_two x y p q hx hy a b =
    then_whenever (IsCut p) (TwoOf x y) (λ u. option_map (λ v. (u, v)) (inhabited_signed q)) (inhabited_signed p)
    (λ u c.
    map_whenever (IsCut q) (TwoOf x y) (λ v. (u, v)) (inhabited_signed q)
    (λ v d.
    let wu : SignedWithin u x = rw c.is a in
    let wv : SignedWithin v y = rw d.is b in
    let fu : IsSignedSpan u = rw c.is (narrower p x hx a c.ordered) in
    let fv : IsSignedSpan v = rw d.is (narrower q y hy b d.ordered) in
    (fu, fv, wu, wv))
    (signed_inhabited q))
    (signed_inhabited p)

-- a number that is not below n stays where the range is raised to n, and so on
raised_has : (x : SignedSpan) (n z : ℤ) → HasSigned x z → n ≤ℤ z → HasSigned (not_below x n) z
raised_has x n z h k = record { from = omega (arith, ints, clamps, h.from, k); upto = h.upto }

lowered_has : (x : SignedSpan) (n z : ℤ) → HasSigned x z → z ≤ℤ n → HasSigned (not_above x n) z
lowered_has x n z h k = record { from = h.from; upto = omega (arith, ints, clamps, h.upto, k) }

between_has : (x : SignedSpan) (m n z : ℤ) → HasSigned x z → m ≤ℤ z → z ≤ℤ n → HasSigned (cut_between x m n) z
between_has x m n z h j k = record { from = omega (arith, ints, clamps, h.from, j); upto = omega (arith, ints, clamps, h.upto, k) }

raised_within : (x : SignedSpan) (n : ℤ) → SignedWithin (not_below x n) x
raised_within x n = record { from = omega (arith, ints, clamps); upto = omega (arith, ints) }

lowered_within : (x : SignedSpan) (n : ℤ) → SignedWithin (not_above x n) x
lowered_within x n = record { from = omega (arith, ints); upto = omega (arith, ints, clamps) }

between_within : (x : SignedSpan) (m n : ℤ) → SignedWithin (cut_between x m n) x
between_within x m n = record { from = omega (arith, ints, clamps); upto = omega (arith, ints, clamps) }

raised_mono : (x s : SignedSpan) (m n : ℤ) → SignedWithin x s → n ≤ℤ m → SignedWithin (not_below x m) (not_below s n)
raised_mono x s m n w k = record { from = omega (arith, ints, clamps, w.from, k); upto = w.upto }

lowered_mono : (x s : SignedSpan) (m n : ℤ) → SignedWithin x s → m ≤ℤ n → SignedWithin (not_above x m) (not_above s n)
lowered_mono x s m n w k = record { from = w.from; upto = omega (arith, ints, clamps, w.upto, k) }

between_mono : (x s : SignedSpan) (l h m n : ℤ) → SignedWithin x s → m ≤ℤ l → h ≤ℤ n → SignedWithin (cut_between x l h) (cut_between s m n)
between_mono x s l h m n w j k = record { from = omega (arith, ints, clamps, w.from, j); upto = omega (arith, ints, clamps, w.upto, k) }

-- what each edge leaves

equal_leaves : (x y : SignedSpan) (a b : ℤ) → HasSigned x a → HasSigned y b → a ≡ b → IsSomeAnd (signed_equal x y) (HasTwo a b)
unfolding signed_equal
equal_leaves x y a b h k e =
    both_leave (cut_between x y.low y.high) (cut_between x y.low y.high) a b
    (between_has x y.low y.high a h (omega (arith, ints, e, k.from)) (omega (arith, ints, e, k.upto)))
    (between_has x y.low y.high b (subst (HasSigned x) e h) k.from k.upto)

above_leaves : (x y : SignedSpan) (a b : ℤ) → HasSigned x a → HasSigned y b → b <ℤ a → IsSomeAnd (signed_above x y) (HasTwo a b)
unfolding signed_above
above_leaves x y a b h k e =
    both_leave (not_below x (y.low +ℤ pos 1)) (not_above y (x.high -ℤ pos 1)) a b
    (raised_has x (y.low +ℤ pos 1) a h (omega (arith, ints, e, k.from))) (lowered_has y (x.high -ℤ pos 1) b k (omega (arith, ints, e, h.upto)))

at_most_leaves : (x y : SignedSpan) (a b : ℤ) → HasSigned x a → HasSigned y b → a ≤ℤ b → IsSomeAnd (signed_at_most x y) (HasTwo a b)
unfolding signed_at_most
at_most_leaves x y a b h k e =
    both_leave (not_above x y.high) (not_below y x.low) a b (lowered_has x y.high a h (omega (arith, ints, e, k.upto))) (raised_has y x.low b k (omega (arith, ints, e, h.from)))

at_least_leaves : (x y : SignedSpan) (a b : ℤ) → HasSigned x a → HasSigned y b → b ≤ℤ a → IsSomeAnd (signed_at_least x y) (HasTwo a b)
unfolding signed_at_least
at_least_leaves x y a b h k e =
    both_leave (not_below x y.low) (not_above y x.high) a b (raised_has x y.low a h (omega (arith, ints, e, k.from))) (lowered_has y x.high b k (omega (arith, ints, e, h.upto)))

below_leaves : (x y : SignedSpan) (a b : ℤ) → HasSigned x a → HasSigned y b → a <ℤ b → IsSomeAnd (signed_below x y) (HasTwo a b)
unfolding signed_below
below_leaves x y a b h k e =
    both_leave (not_above x (y.high -ℤ pos 1)) (not_below y (x.low +ℤ pos 1)) a b
    (lowered_has x (y.high -ℤ pos 1) a h (omega (arith, ints, e, k.upto))) (raised_has y (x.low +ℤ pos 1) b k (omega (arith, ints, e, h.from)))

-- what the tests tell
less_if : (y z : ℤ) → int_lt y z ≡ true → y <ℤ z
less_if y z e = omega (arith, ints, e)

most_if : (y z : ℤ) → int_lt y z ≡ false → z ≤ℤ y
most_if y z e = omega (arith, ints, e)

le_if : (y z : ℤ) → int_le y z ≡ true → y ≤ℤ z
le_if y z e = omega (arith, ints, e)

more_if : (y z : ℤ) → int_le y z ≡ false → z <ℤ y
more_if y z e = omega (arith, ints, e)

pub signed_narrowed_leaves : (c : Condition) (taken : Bool) (x y : SignedSpan) (a b : ℕ) → HasSigned x (cast_signed w64 a) → HasSigned y (cast_signed w64 b)
    → condition_holds width.W64 c a b ≡ taken → IsSomeAnd (signed_narrowed c taken x y) (HasTwo (cast_signed w64 a) (cast_signed w64 b))
unfolding signed_narrowed condition_holds
signed_narrowed_leaves cond.Eq true x y a b h k e = let s : a ≡ b = grind (arith, nat_tests, e) in equal_leaves x y (cast_signed w64 a) (cast_signed w64 b) h k (ap (cast_signed w64) s)
signed_narrowed_leaves cond.Ne false x y a b h k e = let s : a ≡ b = grind (arith, nat_tests, e) in equal_leaves x y (cast_signed w64 a) (cast_signed w64 b) h k (ap (cast_signed w64) s)
signed_narrowed_leaves cond.SignedGt true x y a b h k e = above_leaves x y (cast_signed w64 a) (cast_signed w64 b) h k (less_if (cast_signed w64 b) (cast_signed w64 a) e)
signed_narrowed_leaves cond.SignedGt false x y a b h k e = at_most_leaves x y (cast_signed w64 a) (cast_signed w64 b) h k (most_if (cast_signed w64 b) (cast_signed w64 a) e)
signed_narrowed_leaves cond.SignedGe true x y a b h k e = at_least_leaves x y (cast_signed w64 a) (cast_signed w64 b) h k (le_if (cast_signed w64 b) (cast_signed w64 a) e)
signed_narrowed_leaves cond.SignedGe false x y a b h k e = below_leaves x y (cast_signed w64 a) (cast_signed w64 b) h k (more_if (cast_signed w64 b) (cast_signed w64 a) e)
signed_narrowed_leaves cond.SignedLt true x y a b h k e = below_leaves x y (cast_signed w64 a) (cast_signed w64 b) h k (less_if (cast_signed w64 a) (cast_signed w64 b) e)
signed_narrowed_leaves cond.SignedLt false x y a b h k e = at_least_leaves x y (cast_signed w64 a) (cast_signed w64 b) h k (most_if (cast_signed w64 a) (cast_signed w64 b) e)
signed_narrowed_leaves cond.SignedLe true x y a b h k e = at_most_leaves x y (cast_signed w64 a) (cast_signed w64 b) h k (le_if (cast_signed w64 a) (cast_signed w64 b) e)
signed_narrowed_leaves cond.SignedLe false x y a b h k e = above_leaves x y (cast_signed w64 a) (cast_signed w64 b) h k (more_if (cast_signed w64 a) (cast_signed w64 b) e)
signed_narrowed_leaves _ _ x y a b h k e = (h, k)

pub signed_narrowed_two : (c : Condition) (taken : Bool) (x y : SignedSpan) → IsSignedSpan x → IsSignedSpan y
    → Whenever (TwoOf x y) (signed_narrowed c taken x y)
unfolding signed_narrowed signed_equal signed_above signed_at_most signed_at_least signed_below
signed_narrowed_two c taken x y hx hy = by c taken
  where
    equal : Whenever (TwoOf x y) (both_signed (cut_between x y.low y.high) (cut_between x y.low y.high))
    equal =
        both_two x y (cut_between x y.low y.high) (cut_between x y.low y.high) hx hy (between_within x y.low y.high)
        (record { from = omega (arith, ints, clamps); upto = omega (arith, ints, clamps) })

    above : Whenever (TwoOf x y) (both_signed (not_below x (y.low +ℤ pos 1)) (not_above y (x.high -ℤ pos 1)))
    above =
        both_two x y (not_below x (y.low +ℤ pos 1)) (not_above y (x.high -ℤ pos 1)) hx hy (raised_within x (y.low +ℤ pos 1)) (lowered_within y (x.high -ℤ pos 1))

    at_most : Whenever (TwoOf x y) (both_signed (not_above x y.high) (not_below y x.low))
    at_most = both_two x y (not_above x y.high) (not_below y x.low) hx hy (lowered_within x y.high) (raised_within y x.low)

    at_least : Whenever (TwoOf x y) (both_signed (not_below x y.low) (not_above y x.high))
    at_least = both_two x y (not_below x y.low) (not_above y x.high) hx hy (raised_within x y.low) (lowered_within y x.high)

    below : Whenever (TwoOf x y) (both_signed (not_above x (y.high -ℤ pos 1)) (not_below y (x.low +ℤ pos 1)))
    below =
        both_two x y (not_above x (y.high -ℤ pos 1)) (not_below y (x.low +ℤ pos 1)) hx hy (lowered_within x (y.high -ℤ pos 1)) (raised_within y (x.low +ℤ pos 1))

    kept : TwoOf x y (x, y)
    kept = (hx, hy, record { from = omega (arith, ints); upto = omega (arith, ints) }, record { from = omega (arith, ints); upto = omega (arith, ints) })

    by : (d : Condition) (t : Bool) → Whenever (TwoOf x y) (signed_narrowed d t x y)
    by cond.Eq true = equal
    by cond.Ne false = equal
    by cond.SignedGt true = above
    by cond.SignedGt false = at_most
    by cond.SignedGe true = at_least
    by cond.SignedGe false = below
    by cond.SignedLt true = below
    by cond.SignedLt false = at_least
    by cond.SignedLe true = at_most
    by cond.SignedLe false = above
    by _ _ = kept

pub signed_narrowed_mono : (c : Condition) (taken : Bool) (x y s t : SignedSpan) → SignedWithin x s → SignedWithin y t
    → Related TwoWithin (signed_narrowed c taken x y) (signed_narrowed c taken s t)
unfolding signed_narrowed signed_equal signed_above signed_at_most signed_at_least signed_below
signed_narrowed_mono c taken x y s t a b = by c taken
  where
    equal : Related TwoWithin (both_signed (cut_between x y.low y.high) (cut_between x y.low y.high)) (both_signed (cut_between s t.low t.high) (cut_between s t.low t.high))
    equal =
        let w = between_mono x s y.low y.high t.low t.high a b.from b.upto in
        both_within (cut_between x y.low y.high) (cut_between x y.low y.high) (cut_between s t.low t.high) (cut_between s t.low t.high) w w

    above : Related TwoWithin (both_signed (not_below x (y.low +ℤ pos 1)) (not_above y (x.high -ℤ pos 1))) (both_signed (not_below s (t.low +ℤ pos 1)) (not_above t (s.high -ℤ pos 1)))
    above =
        both_within (not_below x (y.low +ℤ pos 1)) (not_above y (x.high -ℤ pos 1)) (not_below s (t.low +ℤ pos 1)) (not_above t (s.high -ℤ pos 1))
        (raised_mono x s (y.low +ℤ pos 1) (t.low +ℤ pos 1) a (omega (arith, ints, b.from)))
        (lowered_mono y t (x.high -ℤ pos 1) (s.high -ℤ pos 1) b (omega (arith, ints, a.upto)))

    at_most : Related TwoWithin (both_signed (not_above x y.high) (not_below y x.low)) (both_signed (not_above s t.high) (not_below t s.low))
    at_most =
        both_within (not_above x y.high) (not_below y x.low) (not_above s t.high) (not_below t s.low) (lowered_mono x s y.high t.high a b.upto)
        (raised_mono y t x.low s.low b a.from)

    at_least : Related TwoWithin (both_signed (not_below x y.low) (not_above y x.high)) (both_signed (not_below s t.low) (not_above t s.high))
    at_least =
        both_within (not_below x y.low) (not_above y x.high) (not_below s t.low) (not_above t s.high) (raised_mono x s y.low t.low a b.from)
        (lowered_mono y t x.high s.high b a.upto)

    below : Related TwoWithin (both_signed (not_above x (y.high -ℤ pos 1)) (not_below y (x.low +ℤ pos 1))) (both_signed (not_above s (t.high -ℤ pos 1)) (not_below t (s.low +ℤ pos 1)))
    below =
        both_within (not_above x (y.high -ℤ pos 1)) (not_below y (x.low +ℤ pos 1)) (not_above s (t.high -ℤ pos 1)) (not_below t (s.low +ℤ pos 1))
        (lowered_mono x s (y.high -ℤ pos 1) (t.high -ℤ pos 1) a (omega (arith, ints, b.upto)))
        (raised_mono y t (x.low +ℤ pos 1) (s.low +ℤ pos 1) b (omega (arith, ints, a.from)))

    by : (d : Condition) (u : Bool) → Related TwoWithin (signed_narrowed d u x y) (signed_narrowed d u s t)
    by cond.Eq true = equal
    by cond.Ne false = equal
    by cond.SignedGt true = above
    by cond.SignedGt false = at_most
    by cond.SignedGe true = at_least
    by cond.SignedGe false = below
    by cond.SignedLt true = below
    by cond.SignedLt false = at_least
    by cond.SignedLe true = at_most
    by cond.SignedLe false = above
    by _ _ = (a, b)

-- no number is above the greatest, and none below the least

pub none_above : (x : SignedSpan) (n : ℤ) → FitsSigned w64 x.high → FitsSigned w64 n → (FitsSigned w64 (n +ℤ pos 1) → ⊥)
    → None ≡ inhabited_signed (not_below x (n +ℤ pos 1))
unfolding inhabited_signed
none_above x n f g past = by (int_le (int_max x.low (n +ℤ pos 1)) x.high) refl
  where
    by : (t : Bool) → int_le (int_max x.low (n +ℤ pos 1)) x.high ≡ t → None ≡ (if t then Some (not_below x (n +ℤ pos 1)) else None)
    by true e = absurd (past (omega (arith, ints, clamps, e, f, g)))
    by false e = refl

pub none_below : (x : SignedSpan) (n : ℤ) → FitsSigned w64 x.low → FitsSigned w64 n → (FitsSigned w64 (n -ℤ pos 1) → ⊥)
    → None ≡ inhabited_signed (not_above x (n -ℤ pos 1))
unfolding inhabited_signed
none_below x n f g past = by (int_le x.low (int_min x.high (n -ℤ pos 1))) refl
  where
    by : (t : Bool) → int_le x.low (int_min x.high (n -ℤ pos 1)) ≡ t → None ≡ (if t then Some (not_above x (n -ℤ pos 1)) else None)
    by true e = absurd (past (omega (arith, ints, clamps, e, f, g)))
    by false e = refl
