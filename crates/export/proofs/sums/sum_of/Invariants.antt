use Rattle.std.proofs.Common.{◌≡◌, sum_by}
use Rattle.std.specs.List.{range_with_len}
use Rattle.images.specs.Views.{sectors_of}
use Rattle.export.specs.Kept.{weight_at}
use Rattle.export.proofs.sums.sum_of.Given as goal

abbrev pub invariant-loop-number : goal.invariant-loop-number
invariant-loop-number l = l.sum ≡ sum_by (weight_at (sectors_of l.image)) (range_with_len 0 l.number)
