use Rattle.verifier.proofs.Ascending.{Climbed}
use Rattle.verifier.proofs.climbing.climb.Given as goal

abbrev pub invariant-loop-step : goal.invariant-loop-step
invariant-loop-step l = Climbed l.scene.guards l.scene.program.now l.scene.sectors l.table
