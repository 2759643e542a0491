use Rattle.ranges.proofs.Fitting.{join_state_fits, round_state_fits}
use Rattle.ranges.proofs.Keeping.{after_fits, edge_fits, entry_fits}
use Rattle.ranges.proofs.SmallerStates.{passes_fit}
use Rattle.ranges.proofs.laws.states_fit.Goals as goal

pub returns : goal.returns
returns c = record { join = join_state_fits; round = round_state_fits; after = after_fits; edge = edge_fits; entry = entry_fits; passes = passes_fit }
