use Rattle.std.proofs.Common.{◌≡◌, ap, arith}
use Rattle.std.proofs.lemmas.Int.{ints, clamps}
use Rattle.intervals.specs.Reducing.{Limits, LimitsWithin, limits_hull}
use Rattle.intervals.proofs.Smaller.{hull_fits}
use Rattle.intervals.proofs.CallerLemmas.{hull_has_first, hull_has_other, hull_is_below, hull_is_first}
use Rattle.intervals.proofs.bounds_laws.hull_of_bounds_is_least.Goals as goal

pub returns : goal.returns
returns c =
    record {
      first = hull_has_first;
      other = hull_has_other;
      least = hull_is_below;
      absorbs = λ x y. (forth x y, hull_is_first x y);
      fits = hull_fits;
    }
  where
    forth : (x y : Limits) → limits_hull x y ≡ x → LimitsWithin y x
    forth x y e =
        let low = ap (λ z. z.unsigned.low) e in
        let high = ap (λ z. z.unsigned.high) e in
        let least = ap (λ z. z.signed.low) e in
        let greatest = ap (λ z. z.signed.high) e in
        record {
          unsigned = record { from = omega (arith, low); upto = omega (arith, high) };
          signed = record { from = omega (arith, ints, clamps, least); upto = omega (arith, ints, clamps, greatest) };
        }
