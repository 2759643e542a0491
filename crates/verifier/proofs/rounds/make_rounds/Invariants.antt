use Rattle.std.proofs.Common.{◌≡◌, ◌-◌, ◌^◌, ℕ}
use Rattle.verifier.specs.Rounds.{rounds}
use Rattle.verifier.specs.Measure.{weight}
use Rattle.verifier.specs.Passing.{IsMarked}
use Rattle.verifier.proofs.rounds.make_rounds.Given as goal

abbrev pub invariant-loop-marks : goal.invariant-loop-marks
invariant-loop-marks l = ((turns : ℕ) × (l.table ≡ rounds l.scene.guards l.scene.program.now l.scene.sectors turns)) × IsMarked l.scene.guards l.scene.program.now l.scene.sectors l.table l.marks.items

abbrev pub decreases-loop-marks : goal.decreases-loop-marks
decreases-loop-marks l = 2 ^ 96 - weight l.table
