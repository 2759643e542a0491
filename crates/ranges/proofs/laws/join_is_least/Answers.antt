use Rattle.ranges.proofs.Joins.{join_first, join_other, join_least, under_contains, contains_under}
use Rattle.ranges.proofs.laws.join_is_least.Goals as goal

pub returns : goal.returns
returns c = record { first = join_first; other = join_other; least = join_least; contains = λ k l. (contains_under k l, under_contains k l) }
