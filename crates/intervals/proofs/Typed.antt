-- What the types of the code keep.
use Rattle.std.proofs.Common.{◌-◌, ◌^◌, arith}
use Rattle.intervals.specs.declared.range.Range.{Range}
use Rattle.intervals.specs.declared.signed_range.SignedRange.{SignedRange}
use Rattle.intervals.specs.declared.bounds.Bounds.{Bounds}
use Rattle.intervals.specs.Spans.{IsSpan}
use Rattle.intervals.specs.SignedSpans.{IsSignedSpan}
use Rattle.intervals.specs.Reducing.{IsLimits}
use Rattle.intervals.specs.Seen.{span_of}
use Rattle.intervals.specs.SeenSigned.{signed_span_of}
use Rattle.intervals.specs.SeenBounds.{limits_of}

pub words_of : (r : Range) → IsSpan (2 ^ 64 - 1) (span_of r)
words_of r = record { ordered = r.ordered; most = omega (arith, r.fits) }

pub readings_of : (r : SignedRange) → IsSignedSpan (signed_span_of r)
readings_of r = record { ordered = r.ordered; low_fits = r.low_fits; high_fits = r.high_fits }

pub limits_are : (x : Bounds) → IsLimits (limits_of x)
limits_are x = record { words = words_of x.unsigned; readings = readings_of x.signed; reduced = x.reduced }
