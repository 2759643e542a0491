use Rattle.intervals.proofs.SignedDigits.{floor_signed_nearest, ceiling_signed_nearest, rounded_is, limits_rounded_fits, limits_rounded_mono}
use Rattle.intervals.proofs.bounds_laws.rounding_of_bounds.Goals as goal

pub returns : goal.returns
returns c =
    record {
      low = floor_signed_nearest;
      high = ceiling_signed_nearest;
      is_reduced = λ x h. (rounded_is x h).is;
      contains = λ x h. (rounded_is x h).within;
      fits = limits_rounded_fits;
      monotone = limits_rounded_mono;
    }
