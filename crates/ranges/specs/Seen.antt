-- How contracts see values.
use Rattle.intervals.specs.Spans.{Span, span}
use Rattle.intervals.specs.SeenBounds.{limits_of}
use Rattle.ranges.specs.declared.value.SectorOffsets.{SectorOffsets}
use Rattle.ranges.specs.declared.value.Value.{Value}
use Rattle.ranges.specs.declared.value.Value.TheVariants as value
use Rattle.ranges.specs.Kinds.{Kind, Unset, Word, Num, Ctx, Stack, Sector, SectorOrNull}

abbrev pub offsets_of : SectorOffsets → Span
offsets_of x = span x.low x.high

abbrev pub kind_of : Value → Kind
kind_of value.Unset = Unset
kind_of value.Word = Word
kind_of (value.Num x) = Num (limits_of x)
kind_of (value.Ctx o) = Ctx o.offset
kind_of (value.Stack o) = Stack o.offset
kind_of (value.Sector x) = Sector (offsets_of x)
kind_of value.SectorOrNull = SectorOrNull
