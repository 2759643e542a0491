use Rattle.intervals.proofs.Digits.{floor_nearest, ceiling_nearest, rounded_within, rounded_fits}
use Rattle.intervals.proofs.laws.rounding_contains.Goals as goal

pub returns : goal.returns
returns c = record { low = floor_nearest; high = ceiling_nearest; contains = rounded_within; fits = rounded_fits }
