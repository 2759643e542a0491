use Rattle.std.proofs.Common.{arith}
use Rattle.std.proofs.lemmas.Int.{ints}
use Rattle.intervals.specs.SeenSigned.{signed_span_of}
use Rattle.intervals.proofs.SignedOrders.{none_below}
use Rattle.intervals.proofs.signed_range.SignedRange.below.Goals as goal

pub returns-in-None : goal.returns-in-None
returns-in-None c =
    none_below (signed_span_of c.args.self) c.args.number c.args.self.low_fits c.ranges.number
    (λ f. c.in-None.ensures (omega (arith, ints, f, c.ranges.number)))
