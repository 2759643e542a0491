use Rattle.std.proofs.Common.{◌≡◌, ◌%◌, ◌^◌}
use Rattle.lanes.specs.Sector.{horner}
use Rattle.images.specs.Number.{initial_mix}
use Rattle.images.proofs.number.joined_mixes.Given as goal

abbrev pub invariant-loop-number : goal.invariant-loop-number
invariant-loop-number l = l.mixed ≡ horner (initial_mix l.log) l.number % 2 ^ 64
