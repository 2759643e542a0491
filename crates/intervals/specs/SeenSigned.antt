-- How contracts see signed ranges.
use Rattle.intervals.specs.declared.signed_range.SignedRange.{SignedRange}
use Rattle.intervals.specs.SignedSpans.{SignedSpan, signed_span}

abbrev pub signed_span_of : SignedRange → SignedSpan
signed_span_of r = signed_span r.low r.high

abbrev pub signed_spans_of : SignedRange × SignedRange → SignedSpan × SignedSpan
signed_spans_of p = (signed_span_of p.0, signed_span_of p.1)
