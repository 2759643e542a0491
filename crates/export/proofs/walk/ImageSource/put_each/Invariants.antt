use Rattle.std.proofs.Common.{◌≡◌, ◌+◌, ◌<◌, nat_eq, slice_get, Some}
use Rattle.std.specs.HashMap.{get}
use Rattle.std.specs.List.{flat_map, range_with_len}
use Rattle.choices.specs.Choices.{ranked_choices}
use Rattle.export.specs.Export.{image_text}
use Rattle.export.specs.Kept.{IsKept}
use Rattle.export.specs.Streaming.{stream_of, Puts}
use Rattle.export.proofs.walk.ImageSource.put_each.Given as goal

abbrev pub invariant-loop-place : goal.invariant-loop-place
invariant-loop-place g l =
    Puts (stream_of (g.W.Write.contents l.initial.out.output.writer) l.initial.out.waiting.items l.initial.out.output.has_failed)
    (stream_of (g.W.Write.contents l.out.output.writer) l.out.waiting.items l.out.output.has_failed)
    (flat_map (image_text l.self) (range_with_len 0 l.place))
    × IsKept l.self l.place l.kept.shown l.kept.near l.kept.sum l.kept.fresh (get nat_eq l.kept.places)
    × (l.place < l.count → slice_get (ranked_choices l.self.plan l.self.bound l.self.tears) (l.self.from + l.place) ≡ Some l.choice)
