use Rattle.ranges.specs.Kinds.{join}
use Rattle.ranges.specs.Seen.{kind_of}
use Rattle.ranges.specs.declared.value.Value.TheVariants as value
use Rattle.ranges.proofs.Arrays.{Joined}
use Rattle.ranges.proofs.knowing.join_values_into.Given as goal

abbrev pub invariant-loop-k : goal.invariant-loop-k
invariant-loop-k l = Joined kind_of join l.initial.x l.y l.x l.k value.Unset
