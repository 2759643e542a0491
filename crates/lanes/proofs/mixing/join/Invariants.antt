use Rattle.std.proofs.Common.{◌≡◌, ◌%◌, ◌^◌, slice_index}
use Rattle.lanes.specs.Sector.{horner}
use Rattle.lanes.proofs.mixing.join.Given as goal

abbrev pub invariant-loop-sum : goal.invariant-loop-sum
invariant-loop-sum l = l.mixed ≡ horner (λ lane. slice_index l.fn.sums lane) l.sum-index % 2 ^ 64
