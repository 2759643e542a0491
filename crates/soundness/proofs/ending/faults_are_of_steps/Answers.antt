use Rattle.soundness.proofs.Going.{faults_are_of_steps}
use Rattle.soundness.proofs.ending.faults_are_of_steps.Goals as goal

pub returns : goal.returns
returns c = faults_are_of_steps
