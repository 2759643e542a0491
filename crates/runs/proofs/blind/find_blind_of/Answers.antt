use Rattle.std.proofs.Common.{ap}
use Rattle.choices.specs.Sums.{StartsValue}
use Rattle.runs.proofs.blind.find_blind_of.Goals as goal

pub find_blind-requires-clause-starts : goal.find_blind-requires-clause-starts
find_blind-requires-clause-starts c = ap (λ (s : StartsValue). s.plan) c.in_ok-starts.ensures

pub find_blind-requires-clause-history : goal.find_blind-requires-clause-history
find_blind-requires-clause-history c = c.in_ok-history.ensures
