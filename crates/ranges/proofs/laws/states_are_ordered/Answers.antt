use Rattle.ranges.proofs.Chains.{state_self, state_chain, state_both}
use Rattle.ranges.proofs.laws.states_are_ordered.Goals as goal

pub returns : goal.returns
returns c = record { self = state_self; chain = state_chain; same = state_both }
