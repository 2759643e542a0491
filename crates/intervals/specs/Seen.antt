-- How contracts see ranges.
use Rattle.std.specs.Prelude.{ℤ}
use Rattle.std.specs.Int.{cast_unsigned, w64}
use Rattle.intervals.specs.declared.range.Range.{Range}
use Rattle.intervals.specs.Spans.{Span, span, only}

abbrev pub span_of : Range → Span
span_of r = span r.low r.high

abbrev pub spans_of : Range × Range → Span × Span
spans_of p = (span_of p.0, span_of p.1)

-- the constant of an instruction as the machine reads it
abbrev pub immediate_span : ℤ → Span
immediate_span n = only (cast_unsigned w64 n)
