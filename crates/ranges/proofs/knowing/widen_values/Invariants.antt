use Rattle.ranges.specs.Kinds.{round}
use Rattle.ranges.specs.Seen.{kind_of}
use Rattle.ranges.specs.declared.value.Value.TheVariants as value
use Rattle.ranges.proofs.Arrays.{Joined}
use Rattle.ranges.proofs.knowing.widen_values.Given as goal

abbrev pub invariant-loop-k : goal.invariant-loop-k
invariant-loop-k l = Joined kind_of (λ y other. round y) l.initial.x l.initial.x l.x l.k value.Unset
