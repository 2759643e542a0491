-- How contracts see the two ranges of a number.
use Rattle.intervals.specs.declared.bounds.Bounds.{Bounds}
use Rattle.intervals.specs.Seen.{span_of}
use Rattle.intervals.specs.SeenSigned.{signed_span_of}
use Rattle.intervals.specs.Reducing.{Limits, limits}

abbrev pub limits_of : Bounds → Limits
limits_of x = limits (span_of x.unsigned) (signed_span_of x.signed)

abbrev pub both_limits : Bounds × Bounds → Limits × Limits
both_limits p = (limits_of p.0, limits_of p.1)
