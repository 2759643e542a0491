use Rattle.std.proofs.Common.{◌≡◌, sym, subst}
use Rattle.intervals.specs.Spans.{Span}
use Rattle.intervals.specs.SignedSpans.{SignedSpan}
use Rattle.intervals.specs.Reducing.{Limits, limits, limits_hull, IsLimits, IsReduced}
use Rattle.intervals.specs.SeenBounds.{limits_of}
use Rattle.intervals.proofs.Smaller.{hull_fits}
use Rattle.intervals.proofs.Typed.{limits_are}
use Rattle.intervals.proofs.bounds.Bounds.join.Goals as goal

hull_made : (x y : Limits) (u : Span) (s : SignedSpan) → u ≡ (limits_hull x y).unsigned → s ≡ (limits_hull x y).signed → IsLimits x → IsLimits y
    → IsReduced (limits u s)
hull_made x y u s p q hx hy =
    subst (λ v. IsReduced (limits v s)) (sym p) (subst (λ t. IsReduced (limits (limits_hull x y).unsigned t)) (sym q) (hull_fits x y hx hy).reduced)

pub invariant_of-result : goal.invariant_of-result
invariant_of-result c =
    record {
      reduced =
          hull_made (limits_of c.args.self) (limits_of c.args.other) _ _ c.join.ensures c.join-2.ensures (limits_are c.args.self)
          (limits_are c.args.other);
    }
