use Rattle.ranges.proofs.Covering.{state_round, state_round_mono}
use Rattle.ranges.proofs.laws.states_round.Goals as goal

pub returns : goal.returns
returns c = record { contains = state_round; monotone = state_round_mono }
