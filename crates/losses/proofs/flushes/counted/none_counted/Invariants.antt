use Rattle.std.proofs.Common.{◌≡◌, [], map}
use Rattle.std.specs.List.{range_with_len}
use Rattle.losses.specs.Counted.{missing_at}
use Rattle.losses.proofs.flushes.counted.none_counted.Given as goal

abbrev pub invariant-loop-place : goal.invariant-loop-place
invariant-loop-place l = l.flushes.items ≡ map (missing_at [] l.fn.places) (range_with_len 0 l.place-index)
