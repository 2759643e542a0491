-- The edges: what they leave, and that smaller ranges leave smaller ones.
use Rattle.std.proofs.Common.{ℕ, ◌≡◌, ◌+◌, ◌-◌, ◌<◌, ◌≤◌, nat_le, ◌&&◌, Bool, true, false, Option, None, Some, refl, sym, ℤ, min, max, if◌then◌else◌, arith}
use Rattle.std.proofs.lemmas.Bool.Decides.{nat_tests}
use Rattle.bpf_isa.specs.declared.instr.Instr.{Instr}
use Rattle.bpf_isa.specs.declared.instr.Instr.TheVariants as instr
use Rattle.bpf_isa.specs.declared.instr.Source.{Source}
use Rattle.bpf_isa.specs.declared.instr.Width.{Width}
use Rattle.bpf_isa.specs.declared.instr.Width.TheVariants as width
use Rattle.bpf_isa.specs.declared.instr.Condition.{Condition}
use Rattle.bpf_isa.specs.declared.instr.Condition.TheVariants as cond
use Rattle.machine.specs.Arithmetic.{condition_holds, holds}
use Rattle.intervals.specs.Spans.{Span, span, Has, Within}
use Rattle.intervals.specs.Edges.{both, equal, without, apart, above, at_most, at_least, below, condition_edge, is_same, jump_edge}
use Rattle.intervals.specs.Laws.{Leaves, Shrinks, WithinBoth, IsWordSpan}

-- two spans that have words are left
pub both_leave : (l h m n a b : ℕ) → l ≤ a → a ≤ h → m ≤ b → b ≤ n → Leaves (both (span l h) (span m n)) a b
both_leave l h m n a b p q r s =
    let t : nat_le l h && nat_le m n ≡ true = grind (arith, nat_tests, p, q, r, s) in
    rw t (record { from = p; upto = q }, record { from = r; upto = s })

pub equal_leaves : (x y : Span) (a b : ℕ) → Has x a → Has y b → a ≡ b → Leaves (equal x y) a b
unfolding equal
equal_leaves x y a b h k e =
    both_leave (max x.low y.low) (min x.high y.high) (max x.low y.low) (min x.high y.high) a b
    (omega (arith, h.from, k.from, e)) (omega (arith, h.upto, k.upto, e))
    (omega (arith, h.from, k.from, e)) (omega (arith, h.upto, k.upto, e))

-- a number that is not the constant stays
without_has : (x y : Span) (a b : ℕ) → Has x a → Has y b → (a ≡ b → ⊥) → Has (without x y) a
without_has x y a b h k e =
    record {
      from = grind (arith, nat_tests, h.from, h.upto, k.from, k.upto, e);
      upto = grind (arith, nat_tests, h.from, h.upto, k.from, k.upto, e);
    }

pub apart_leaves : (x y : Span) (a b : ℕ) → Has x a → Has y b → (a ≡ b → ⊥) → Leaves (apart x y) a b
unfolding apart
apart_leaves x y a b h k e =
    let p = without_has x y a b h k e in
    let q = without_has y x b a k h (λ i. e (sym i)) in
    both_leave (without x y).low (without x y).high (without y x).low (without y x).high a b p.from p.upto q.from q.upto

pub above_leaves : (x y : Span) (a b : ℕ) → Has x a → Has y b → b < a → Leaves (above x y) a b
unfolding above
above_leaves x y a b h k e =
    both_leave (max x.low (y.low + 1)) x.high y.low (min y.high (x.high - 1)) a b
    (omega (arith, h.from, k.from, e)) h.upto k.from (omega (arith, h.upto, k.upto, e))

pub at_most_leaves : (x y : Span) (a b : ℕ) → Has x a → Has y b → a ≤ b → Leaves (at_most x y) a b
unfolding at_most
at_most_leaves x y a b h k e =
    both_leave x.low (min x.high y.high) (max x.low y.low) y.high a b
    h.from (omega (arith, h.upto, k.upto, e)) (omega (arith, h.from, k.from, e)) k.upto

pub at_least_leaves : (x y : Span) (a b : ℕ) → Has x a → Has y b → b ≤ a → Leaves (at_least x y) a b
unfolding at_least
at_least_leaves x y a b h k e =
    both_leave (max x.low y.low) x.high y.low (min y.high x.high) a b
    (omega (arith, h.from, k.from, e)) h.upto k.from (omega (arith, h.upto, k.upto, e))

pub below_leaves : (x y : Span) (a b : ℕ) → Has x a → Has y b → a < b → Leaves (below x y) a b
unfolding below
below_leaves x y a b h k e =
    both_leave x.low (min x.high (y.high - 1)) (max y.low (x.low + 1)) y.high a b
    h.from (omega (arith, h.upto, k.upto, e)) (omega (arith, h.from, k.from, e)) k.upto

-- what the edge of a condition leaves
pub narrowed_leaves : (c : Condition) (taken : Bool) (x y : Span) (a b : ℕ) → Has x a → Has y b → condition_holds width.W64 c a b ≡ taken
    → Leaves (condition_edge c taken x y) a b
unfolding condition_edge condition_holds
narrowed_leaves cond.Eq true x y a b h k e = equal_leaves x y a b h k (grind (arith, nat_tests, e))
narrowed_leaves cond.Eq false x y a b h k e = apart_leaves x y a b h k (grind (arith, nat_tests, e))
narrowed_leaves cond.Ne true x y a b h k e = apart_leaves x y a b h k (grind (arith, nat_tests, e))
narrowed_leaves cond.Ne false x y a b h k e = equal_leaves x y a b h k (grind (arith, nat_tests, e))
narrowed_leaves cond.Gt true x y a b h k e = above_leaves x y a b h k (grind (arith, nat_tests, e))
narrowed_leaves cond.Gt false x y a b h k e = at_most_leaves x y a b h k (grind (arith, nat_tests, e))
narrowed_leaves cond.Ge true x y a b h k e = at_least_leaves x y a b h k (grind (arith, nat_tests, e))
narrowed_leaves cond.Ge false x y a b h k e = below_leaves x y a b h k (grind (arith, nat_tests, e))
narrowed_leaves cond.Lt true x y a b h k e = below_leaves x y a b h k (grind (arith, nat_tests, e))
narrowed_leaves cond.Lt false x y a b h k e = at_least_leaves x y a b h k (grind (arith, nat_tests, e))
narrowed_leaves cond.Le true x y a b h k e = at_most_leaves x y a b h k (grind (arith, nat_tests, e))
narrowed_leaves cond.Le false x y a b h k e = above_leaves x y a b h k (grind (arith, nat_tests, e))
narrowed_leaves cond.Set taken x y a b h k e = (h, k)
narrowed_leaves cond.SignedGt taken x y a b h k e = (h, k)
narrowed_leaves cond.SignedGe taken x y a b h k e = (h, k)
narrowed_leaves cond.SignedLt taken x y a b h k e = (h, k)
narrowed_leaves cond.SignedLe taken x y a b h k e = (h, k)

leave_if : (s : Bool) (p q : Option (Span × Span)) (a b : ℕ) → Leaves p a b → Leaves q a b → Leaves (if s then p else q) a b
leave_if true p q a b h k = h
leave_if false p q a b h k = k

pub refined_leaves : (w : Width) (c : Condition) (dst : ℕ) (from : Source) (offset : ℤ) (taken : Bool) (x y : Span) (a b : ℕ)
    → Has x a → Has y b → holds w c a b ≡ taken → Leaves (jump_edge (instr.Branch w c dst from offset) taken x y) a b
unfolding jump_edge holds
refined_leaves width.W32 c dst from offset taken x y a b h k e = (h, k)
refined_leaves width.W64 c dst from offset taken x y a b h k e =
    leave_if (is_same dst from) (Some (x, y)) (condition_edge c taken x y) a b (h, k) (narrowed_leaves c taken x y a b h k e)

-- what is left lies in the ranges before
shrink_if : (t : Bool) (x y p q : Span) → (t ≡ true → IsWordSpan p × IsWordSpan q) → Within p x → Within q y
    → Shrinks (if t then Some (p, q) else None) x y
shrink_if true x y p q f wp wq = let k = f refl in (k.0, k.1, wp, wq)
shrink_if false x y p q f wp wq = tt

both_shrink : (x y p q : Span) → IsWordSpan x → IsWordSpan y → Within p x → Within q y → Shrinks (both p q) x y
both_shrink x y p q hx hy wp wq =
    shrink_if (nat_le p.low p.high && nat_le q.low q.high) x y p q
    (λ e. (
      record { ordered = grind (arith, nat_tests, e); most = omega (arith, hx.most, wp.upto) },
      record { ordered = grind (arith, nat_tests, e); most = omega (arith, hy.most, wq.upto) },
    ))
    wp wq

without_within : (x y : Span) → Within (without x y) x
without_within x y = record { from = grind (arith, nat_tests); upto = grind (arith, nat_tests) }

-- smaller spans leave smaller ones
within_if : (s t : Bool) (p q r u : Span) → (s ≡ true → t ≡ true) → Within p r → Within q u
    → WithinBoth (if s then Some (p, q) else None) (if t then Some (r, u) else None)
within_if true true p q r u f a b = (a, b)
within_if true false p q r u f a b = absurd (let bad : false ≡ true = f refl in cc)
within_if false t p q r u f a b = tt

both_within : (p q r s : Span) → Within p r → Within q s → WithinBoth (both p q) (both r s)
both_within p q r s a b =
    within_if (nat_le p.low p.high && nat_le q.low q.high) (nat_le r.low r.high && nat_le s.low s.high) p q r s
    (λ e. grind (arith, nat_tests, e, a.from, a.upto, b.from, b.upto)) a b

without_mono : (x y s t : Span) → IsWordSpan y → Within x s → Within y t → Within (without x y) (without s t)
without_mono x y s t hy a b =
    record {
      from = grind (arith, nat_tests, a.from, a.upto, b.from, b.upto, hy.ordered);
      upto = grind (arith, nat_tests, a.from, a.upto, b.from, b.upto, hy.ordered);
    }

-- each edge leaves ranges that lie in those before

equal_shrinks : (x y : Span) → IsWordSpan x → IsWordSpan y → Shrinks (equal x y) x y
unfolding equal
equal_shrinks x y hx hy =
    both_shrink x y (span (max x.low y.low) (min x.high y.high)) (span (max x.low y.low) (min x.high y.high)) hx hy
    (record { from = omega arith; upto = omega arith }) (record { from = omega arith; upto = omega arith })

above_shrinks : (x y : Span) → IsWordSpan x → IsWordSpan y → Shrinks (above x y) x y
unfolding above
above_shrinks x y hx hy =
    both_shrink x y (span (max x.low (y.low + 1)) x.high) (span y.low (min y.high (x.high - 1))) hx hy
    (record { from = omega arith; upto = omega arith }) (record { from = omega arith; upto = omega arith })

at_most_shrinks : (x y : Span) → IsWordSpan x → IsWordSpan y → Shrinks (at_most x y) x y
unfolding at_most
at_most_shrinks x y hx hy =
    both_shrink x y (span x.low (min x.high y.high)) (span (max x.low y.low) y.high) hx hy
    (record { from = omega arith; upto = omega arith }) (record { from = omega arith; upto = omega arith })

at_least_shrinks : (x y : Span) → IsWordSpan x → IsWordSpan y → Shrinks (at_least x y) x y
unfolding at_least
at_least_shrinks x y hx hy =
    both_shrink x y (span (max x.low y.low) x.high) (span y.low (min y.high x.high)) hx hy
    (record { from = omega arith; upto = omega arith }) (record { from = omega arith; upto = omega arith })

below_shrinks : (x y : Span) → IsWordSpan x → IsWordSpan y → Shrinks (below x y) x y
unfolding below
below_shrinks x y hx hy =
    both_shrink x y (span x.low (min x.high (y.high - 1))) (span (max y.low (x.low + 1)) y.high) hx hy
    (record { from = omega arith; upto = omega arith }) (record { from = omega arith; upto = omega arith })

apart_shrinks : (x y : Span) → IsWordSpan x → IsWordSpan y → Shrinks (apart x y) x y
unfolding apart
apart_shrinks x y hx hy = both_shrink x y (without x y) (without y x) hx hy (without_within x y) (without_within y x)

-- an edge that tells nothing
kept_shrinks : (x y : Span) → IsWordSpan x → IsWordSpan y → Shrinks (Some (x, y)) x y
kept_shrinks x y hx hy = (hx, hy, record { from = omega arith; upto = omega arith }, record { from = omega arith; upto = omega arith })

pub narrowed_shrinks : (c : Condition) (taken : Bool) (x y : Span) → IsWordSpan x → IsWordSpan y → Shrinks (condition_edge c taken x y) x y
unfolding condition_edge
narrowed_shrinks cond.Eq true x y hx hy = equal_shrinks x y hx hy
narrowed_shrinks cond.Eq false x y hx hy = apart_shrinks x y hx hy
narrowed_shrinks cond.Ne true x y hx hy = apart_shrinks x y hx hy
narrowed_shrinks cond.Ne false x y hx hy = equal_shrinks x y hx hy
narrowed_shrinks cond.Gt true x y hx hy = above_shrinks x y hx hy
narrowed_shrinks cond.Gt false x y hx hy = at_most_shrinks x y hx hy
narrowed_shrinks cond.Ge true x y hx hy = at_least_shrinks x y hx hy
narrowed_shrinks cond.Ge false x y hx hy = below_shrinks x y hx hy
narrowed_shrinks cond.Lt true x y hx hy = below_shrinks x y hx hy
narrowed_shrinks cond.Lt false x y hx hy = at_least_shrinks x y hx hy
narrowed_shrinks cond.Le true x y hx hy = at_most_shrinks x y hx hy
narrowed_shrinks cond.Le false x y hx hy = above_shrinks x y hx hy
narrowed_shrinks cond.Set taken x y hx hy = kept_shrinks x y hx hy
narrowed_shrinks cond.SignedGt taken x y hx hy = kept_shrinks x y hx hy
narrowed_shrinks cond.SignedGe taken x y hx hy = kept_shrinks x y hx hy
narrowed_shrinks cond.SignedLt taken x y hx hy = kept_shrinks x y hx hy
narrowed_shrinks cond.SignedLe taken x y hx hy = kept_shrinks x y hx hy

shrink_either : (t : Bool) (p q : Option (Span × Span)) (x y : Span) → Shrinks p x y → Shrinks q x y → Shrinks (if t then p else q) x y
shrink_either true p q x y h k = h
shrink_either false p q x y h k = k

pub refined_shrinks : (i : Instr) (taken : Bool) (x y : Span) → IsWordSpan x → IsWordSpan y → Shrinks (jump_edge i taken x y) x y
unfolding jump_edge
refined_shrinks (instr.Branch width.W64 c dst from offset) taken x y hx hy =
    shrink_either (is_same dst from) (Some (x, y)) (condition_edge c taken x y) x y (kept_shrinks x y hx hy) (narrowed_shrinks c taken x y hx hy)
refined_shrinks (instr.Branch width.W32 c dst from offset) taken x y hx hy = kept_shrinks x y hx hy
refined_shrinks _ taken x y hx hy = kept_shrinks x y hx hy

-- smaller ranges leave smaller ones

equal_mono : (x y s t : Span) → Within x s → Within y t → WithinBoth (equal x y) (equal s t)
unfolding equal
equal_mono x y s t a b =
    both_within (span (max x.low y.low) (min x.high y.high)) (span (max x.low y.low) (min x.high y.high))
    (span (max s.low t.low) (min s.high t.high)) (span (max s.low t.low) (min s.high t.high))
    (record { from = omega (arith, a.from, b.from); upto = omega (arith, a.upto, b.upto) })
    (record { from = omega (arith, a.from, b.from); upto = omega (arith, a.upto, b.upto) })

above_mono : (x y s t : Span) → Within x s → Within y t → WithinBoth (above x y) (above s t)
unfolding above
above_mono x y s t a b =
    both_within (span (max x.low (y.low + 1)) x.high) (span y.low (min y.high (x.high - 1)))
    (span (max s.low (t.low + 1)) s.high) (span t.low (min t.high (s.high - 1)))
    (record { from = omega (arith, a.from, b.from); upto = omega (arith, a.upto, b.upto) })
    (record { from = omega (arith, a.from, b.from); upto = omega (arith, a.upto, b.upto) })

at_most_mono : (x y s t : Span) → Within x s → Within y t → WithinBoth (at_most x y) (at_most s t)
unfolding at_most
at_most_mono x y s t a b =
    both_within (span x.low (min x.high y.high)) (span (max x.low y.low) y.high)
    (span s.low (min s.high t.high)) (span (max s.low t.low) t.high)
    (record { from = omega (arith, a.from, b.from); upto = omega (arith, a.upto, b.upto) })
    (record { from = omega (arith, a.from, b.from); upto = omega (arith, a.upto, b.upto) })

at_least_mono : (x y s t : Span) → Within x s → Within y t → WithinBoth (at_least x y) (at_least s t)
unfolding at_least
at_least_mono x y s t a b =
    both_within (span (max x.low y.low) x.high) (span y.low (min y.high x.high))
    (span (max s.low t.low) s.high) (span t.low (min t.high s.high))
    (record { from = omega (arith, a.from, b.from); upto = omega (arith, a.upto, b.upto) })
    (record { from = omega (arith, a.from, b.from); upto = omega (arith, a.upto, b.upto) })

below_mono : (x y s t : Span) → Within x s → Within y t → WithinBoth (below x y) (below s t)
unfolding below
below_mono x y s t a b =
    both_within (span x.low (min x.high (y.high - 1))) (span (max y.low (x.low + 1)) y.high)
    (span s.low (min s.high (t.high - 1))) (span (max t.low (s.low + 1)) t.high)
    (record { from = omega (arith, a.from, b.from); upto = omega (arith, a.upto, b.upto) })
    (record { from = omega (arith, a.from, b.from); upto = omega (arith, a.upto, b.upto) })

apart_mono : (x y s t : Span) → IsWordSpan x → IsWordSpan y → Within x s → Within y t → WithinBoth (apart x y) (apart s t)
unfolding apart
apart_mono x y s t hx hy a b =
    both_within (without x y) (without y x) (without s t) (without t s) (without_mono x y s t hy a b) (without_mono y x t s hx b a)

pub narrowed_mono : (c : Condition) (taken : Bool) (x y s t : Span) → IsWordSpan x → IsWordSpan y → Within x s → Within y t
    → WithinBoth (condition_edge c taken x y) (condition_edge c taken s t)
unfolding condition_edge
narrowed_mono cond.Eq true x y s t hx hy a b = equal_mono x y s t a b
narrowed_mono cond.Eq false x y s t hx hy a b = apart_mono x y s t hx hy a b
narrowed_mono cond.Ne true x y s t hx hy a b = apart_mono x y s t hx hy a b
narrowed_mono cond.Ne false x y s t hx hy a b = equal_mono x y s t a b
narrowed_mono cond.Gt true x y s t hx hy a b = above_mono x y s t a b
narrowed_mono cond.Gt false x y s t hx hy a b = at_most_mono x y s t a b
narrowed_mono cond.Ge true x y s t hx hy a b = at_least_mono x y s t a b
narrowed_mono cond.Ge false x y s t hx hy a b = below_mono x y s t a b
narrowed_mono cond.Lt true x y s t hx hy a b = below_mono x y s t a b
narrowed_mono cond.Lt false x y s t hx hy a b = at_least_mono x y s t a b
narrowed_mono cond.Le true x y s t hx hy a b = at_most_mono x y s t a b
narrowed_mono cond.Le false x y s t hx hy a b = above_mono x y s t a b
narrowed_mono cond.Set taken x y s t hx hy a b = (a, b)
narrowed_mono cond.SignedGt taken x y s t hx hy a b = (a, b)
narrowed_mono cond.SignedGe taken x y s t hx hy a b = (a, b)
narrowed_mono cond.SignedLt taken x y s t hx hy a b = (a, b)
narrowed_mono cond.SignedLe taken x y s t hx hy a b = (a, b)

within_either : (u : Bool) (p q r s : Option (Span × Span)) → WithinBoth p r → WithinBoth q s
    → WithinBoth (if u then p else q) (if u then r else s)
within_either true p q r s h k = h
within_either false p q r s h k = k

pub refined_mono : (i : Instr) (taken : Bool) (x y s t : Span) → IsWordSpan x → IsWordSpan y → Within x s → Within y t
    → WithinBoth (jump_edge i taken x y) (jump_edge i taken s t)
unfolding jump_edge
refined_mono (instr.Branch width.W64 c dst from offset) taken x y s t hx hy a b =
    within_either (is_same dst from) (Some (x, y)) (condition_edge c taken x y) (Some (s, t)) (condition_edge c taken s t) (a, b) (narrowed_mono c taken x y s t hx hy a b)
refined_mono (instr.Branch width.W32 c dst from offset) taken x y s t hx hy a b = (a, b)
refined_mono _ taken x y s t hx hy a b = (a, b)
