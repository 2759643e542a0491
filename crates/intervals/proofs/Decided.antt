-- Results that a test decides: one number where the operands are constant, a range that stays, a full one.
use Rattle.std.proofs.Common.{ℕ, ◌≡◌, ◌≤◌, Bool, true, false, if◌then◌else◌, refl, arith}
use Rattle.std.proofs.lemmas.Bool.Decides.{nat_tests}
use Rattle.intervals.specs.Spans.{Span, only, is_constant, IsSpan, Has, Within}
use Rattle.intervals.specs.Operators.{full}

-- A result that is one number where a test holds, and else a range.

pub has_if : (t : Bool) (c v : ℕ) (r : Span) → (t ≡ true → v ≡ c) → Has r v → Has (if t then only c else r) v
has_if true c v r f h = let e = f refl in record { from = omega (arith, e); upto = omega (arith, e) }
has_if false c v r f h = h

pub fits_if : (m : ℕ) (t : Bool) (c : ℕ) (r : Span) → c ≤ m → IsSpan m r → IsSpan m (if t then only c else r)
fits_if m true c r h k = record { ordered = omega arith; most = h }
fits_if m false c r h k = k

pub mono_if : (p q : Bool) (c d : ℕ) (r u : Span) → (q ≡ true → (p ≡ true) × (c ≡ d)) → Has u c → Within r u
    → Within (if p then only c else r) (if q then only d else u)
mono_if true true c d r u f h a = let e = (f refl).1 in record { from = omega (arith, e); upto = omega (arith, e) }
mono_if true false c d r u f h a = record { from = h.from; upto = h.upto }
mono_if false true c d r u f h a = absurd (let bad : false ≡ true = (f refl).0 in cc)
mono_if false false c d r u f h a = a

pub full_has : (m v : ℕ) → v ≤ m → Has (full m) v
full_has m v h = record { from = omega arith; upto = h }

pub full_fits : (m : ℕ) → IsSpan m (full m)
full_fits m = record { ordered = omega arith; most = omega arith }

-- its low end is a number of a range that is not empty
pub low_has : (m : ℕ) (x : Span) → IsSpan m x → Has x x.low
low_has m x h = record { from = omega arith; upto = h.ordered }

pub one_constant : (x : Span) → is_constant x ≡ true → x.low ≡ x.high
one_constant x t = grind (arith, nat_tests, t)

pub one_still : (m : ℕ) (x s : Span) → IsSpan m x → Within x s → is_constant s ≡ true → is_constant x ≡ true
one_still m x s h a q = grind (arith, nat_tests, q, h.ordered, a.from, a.upto)

-- a number of the range of one number
pub constant_is : (x : Span) (a : ℕ) → Has x a → is_constant x ≡ true → a ≡ x.low
constant_is x a h t = omega (arith, one_constant x t, h.from, h.upto)

pub constant_same : (m : ℕ) (x s : Span) → IsSpan m x → Within x s → is_constant s ≡ true → x.low ≡ s.low
constant_same m x s h a t = omega (arith, one_constant s t, h.ordered, a.from, a.upto)

pub low_within : (m : ℕ) (x s : Span) → IsSpan m x → Within x s → Has s x.low
low_within m x s h a = record { from = a.from; upto = omega (arith, h.ordered, a.upto) }

-- a range that stays where a test holds, and else is full
pub stays_has : (t : Bool) (m v : ℕ) (x : Span) → (t ≡ true → Has x v) → v ≤ m → Has (if t then x else full m) v
stays_has true m v x f h = f refl
stays_has false m v x f h = full_has m v h

pub stays_fits : (t : Bool) (m : ℕ) (x : Span) → (t ≡ true → IsSpan m x) → IsSpan m (if t then x else full m)
stays_fits true m x f = f refl
stays_fits false m x f = full_fits m

pub stays_mono : (p q : Bool) (m : ℕ) (x s : Span) → (q ≡ true → p ≡ true) → (p ≡ true → x.high ≤ m) → Within x s
    → Within (if p then x else full m) (if q then s else full m)
stays_mono true true m x s f g a = a
stays_mono true false m x s f g a = record { from = omega arith; upto = g refl }
stays_mono false true m x s f g a = absurd (let bad : false ≡ true = f refl in cc)
stays_mono false false m x s f g a = record { from = omega arith; upto = omega arith }

pub moved : (x : Span) (a b : ℕ) → a ≡ b → Has x a → Has x b
moved x a b e h = record { from = omega (arith, e, h.from); upto = omega (arith, e, h.upto) }
