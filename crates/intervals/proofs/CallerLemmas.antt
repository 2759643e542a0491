-- Lemmas of ranges and limits for the crates above.
use Rattle.std.proofs.Common.{◌≡◌, ℕ, ◌-◌, ◌^◌, min, max, ap, arith}
use Rattle.std.specs.Int.{int_min, int_max}
use Rattle.std.proofs.lemmas.Int.{ints, clamps}
use Rattle.bpf_isa.specs.declared.instr.Instr.TheVariants as instr
use Rattle.intervals.specs.Spans.{Span, IsSpan, Has}
use Rattle.intervals.specs.Results.{result_of}
use Rattle.intervals.specs.Laws.{ResultsCover, ResultsFit, ResultsAreMonotone}
use Rattle.intervals.specs.Reducing.{Limits, LimitsWithin, IsWordLimits, IsLimits, limits_hull}
use Rattle.intervals.specs.LimitLaws.{LimitResultsCover, LimitResultsFit, LimitResultsAreMonotone}
use Rattle.intervals.proofs.Computations.{arithmetic_has, arithmetic_fits, arithmetic_mono, negated_has, negated_fits, negated_mono}
use Rattle.intervals.proofs.Extensions.{extended_has, extended_fits, extended_mono}
use Rattle.intervals.proofs.Orders.{ordered_has, ordered_fits, ordered_mono}
use Rattle.intervals.proofs.Outcomes.{results_cover_limits, results_fit_limits, results_mono_limits}

-- results

pub covering : ResultsCover
unfolding result_of
covering = record {
  operators = λ w o dst from x y a b fx fy hx hy. arithmetic_has w o x y a b fx fy hx hy;
  opposites = λ w dst x y a fx hx. negated_has w x a fx hx;
  signs = λ e dst src x y b fy hy. extended_has e y b fy hy;
  orders = λ o size dst x y a fx hx. ordered_has o size x a fx hx;
}

pub fitting : ResultsFit
unfolding result_of
fitting (instr.Arithmetic w o dst from) x y fx fy = arithmetic_fits w o x y fx fy
fitting (instr.Negate w dst) x y fx fy = negated_fits w x fx
fitting (instr.SignExtend e dst src) x y fx fy = extended_fits e y fy
fitting (instr.ByteOrder o size dst) x y fx fy = ordered_fits o size x fx
fitting _ x y fx fy = tt

pub monotone : ResultsAreMonotone
unfolding result_of
monotone (instr.Arithmetic w o dst from) x y s t fx fy fs ft wx wy = arithmetic_mono w o x y s t fx fy fs ft wx wy
monotone (instr.Negate w dst) x y s t fx fy fs ft wx wy = negated_mono w x s fx wx
monotone (instr.SignExtend e dst src) x y s t fx fy fs ft wx wy = extended_mono e y t fy wy
monotone (instr.ByteOrder o size dst) x y s t fx fy fs ft wx wy = ordered_mono o size x s fx wx
monotone _ x y s t fx fy fs ft wx wy = tt

pub limits_cover : LimitResultsCover
limits_cover = results_cover_limits covering fitting

pub limits_fit : LimitResultsFit
limits_fit = results_fit_limits fitting

pub limits_monotone : LimitResultsAreMonotone
limits_monotone = results_mono_limits monotone fitting

pub words_are_limits : (x : Limits) → IsLimits x → IsWordLimits x
words_are_limits x h = record { words = h.words; readings = h.readings }

-- the order of limits

pub within_self : (x : Limits) → LimitsWithin x x
within_self x = record {
  unsigned = record { from = omega arith; upto = omega arith };
  signed = record { from = omega (arith, ints); upto = omega (arith, ints) };
}

pub within_chain : (x y z : Limits) → LimitsWithin x y → LimitsWithin y z → LimitsWithin x z
within_chain x y z p q = record {
  unsigned = record { from = omega (arith, p.unsigned.from, q.unsigned.from); upto = omega (arith, p.unsigned.upto, q.unsigned.upto) };
  signed = record { from = omega (arith, ints, p.signed.from, q.signed.from); upto = omega (arith, ints, p.signed.upto, q.signed.upto) };
}

pub hull_has_first : (x y : Limits) → LimitsWithin x (limits_hull x y)
hull_has_first x y = record {
  unsigned = record { from = omega arith; upto = omega arith };
  signed = record { from = omega (arith, ints, clamps); upto = omega (arith, ints, clamps) };
}

pub hull_has_other : (x y : Limits) → LimitsWithin y (limits_hull x y)
hull_has_other x y = record {
  unsigned = record { from = omega arith; upto = omega arith };
  signed = record { from = omega (arith, ints, clamps); upto = omega (arith, ints, clamps) };
}

pub hull_is_below : (x y z : Limits) → LimitsWithin x z → LimitsWithin y z → LimitsWithin (limits_hull x y) z
hull_is_below x y z p q = record {
  unsigned = record { from = omega (arith, p.unsigned.from, q.unsigned.from); upto = omega (arith, p.unsigned.upto, q.unsigned.upto) };
  signed = record {
    from = omega (arith, ints, clamps, p.signed.from, q.signed.from);
    upto = omega (arith, ints, clamps, p.signed.upto, q.signed.upto);
  };
}

pub hull_is_first : (x y : Limits) → LimitsWithin y x → limits_hull x y ≡ x
hull_is_first x y w =
    let low : min x.unsigned.low y.unsigned.low ≡ x.unsigned.low = omega (arith, w.unsigned.from) in
    let high : max x.unsigned.high y.unsigned.high ≡ x.unsigned.high = omega (arith, w.unsigned.upto) in
    let least : int_min x.signed.low y.signed.low ≡ x.signed.low = omega (arith, ints, clamps, w.signed.from) in
    let greatest : int_max x.signed.high y.signed.high ≡ x.signed.high = omega (arith, ints, clamps, w.signed.upto) in
    λ i. record { unsigned = record { low = low i; high = high i }; signed = record { low = least i; high = greatest i } }
