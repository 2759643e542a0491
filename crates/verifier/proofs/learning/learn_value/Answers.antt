use Rattle.ranges.specs.SeenStates.{state_of}
use Rattle.ranges.proofs.Typed.{each_state_fits}
use Rattle.verifier.proofs.learning.learn_value.Goals as goal

pub returns : goal.returns
returns c = c.tell_value.ensures.tells (state_of c.args.state.now) (each_state_fits c.args.state.now) c.value_at.ensures
