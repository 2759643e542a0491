use Rattle.ranges.proofs.Covering.{state_first, state_other, state_least, state_same, state_under}
use Rattle.ranges.proofs.laws.states_join.Goals as goal

pub returns : goal.returns
returns c = record { first = state_first; other = state_other; least = state_least; contains = λ s t a b. (state_under s t a b, state_same s t a b) }
