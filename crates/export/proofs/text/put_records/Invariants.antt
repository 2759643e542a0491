use Rattle.std.proofs.Common.{map, take}
use Rattle.std.specs.List.{flat_map}
use Rattle.images.specs.Keys.{with_content}
use Rattle.images.specs.Views.{sectors_of}
use Rattle.export.specs.Export.{record_text}
use Rattle.export.specs.Streaming.{stream_of, Puts}
use Rattle.export.proofs.text.put_records.Given as goal

abbrev pub invariant-loop-number : goal.invariant-loop-number
invariant-loop-number g l =
    Puts (stream_of (g.W.Write.contents l.initial.out.output.writer) l.initial.out.waiting.items l.initial.out.output.has_failed)
    (stream_of (g.W.Write.contents l.out.output.writer) l.out.waiting.items l.out.output.has_failed)
    (flat_map record_text (map (with_content (sectors_of l.image)) (take l.number-index l.numbers)))
