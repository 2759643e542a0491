use Rattle.std.proofs.Common.{◌≡◌, map, take}
use Rattle.losses.specs.Failures.{numbers_in}
use Rattle.losses.proofs.why.cut.numbers_of.Given as goal

abbrev pub invariant-loop-image : goal.invariant-loop-image
invariant-loop-image l = map (λ ns. ns.items) l.numbers.items ≡ map (numbers_in l.starts l.cut l.first) (take l.image-index l.images)
