use Rattle.std.proofs.Common.{◌≡◌, ap, min, max, arith}
use Rattle.intervals.specs.Spans.{Span, Within, hull}
use Rattle.intervals.proofs.laws.hull_is_least.Goals as goal

pub returns : goal.returns
returns c =
    record {
      first = λ x y. record { from = omega arith; upto = omega arith };
      other = λ x y. record { from = omega arith; upto = omega arith };
      least = λ x y z p q. record { from = omega (arith, p.from, q.from); upto = omega (arith, p.upto, q.upto) };
      absorbs = λ x y. (forth x y, back x y);
      fits = λ m x y p q. record { ordered = omega (arith, p.ordered, q.ordered); most = omega (arith, p.most, q.most) };
    }
  where
    forth : (x y : Span) → hull x y ≡ x → Within y x
    forth x y e = let low = ap (λ z. z.low) e in let high = ap (λ z. z.high) e in record { from = omega (arith, low); upto = omega (arith, high) }

    back : (x y : Span) → Within y x → hull x y ≡ x
    back x y w = let low : min x.low y.low ≡ x.low = omega (arith, w.from) in let high : max x.high y.high ≡ x.high = omega (arith, w.upto) in λ i. record { low = low i; high = high i }
