use Rattle.ranges.proofs.Joins.{round_under, round_mono}
use Rattle.ranges.proofs.laws.round_contains.Goals as goal

pub returns : goal.returns
returns c = record { contains = round_under; monotone = round_mono }
