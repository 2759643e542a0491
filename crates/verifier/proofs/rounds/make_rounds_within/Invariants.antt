use Rattle.std.proofs.Common.{◌-◌, ◌^◌}
use Rattle.verifier.specs.Measure.{weight}
use Rattle.verifier.proofs.Counting.{Counted}
use Rattle.verifier.proofs.rounds.make_rounds_within.Given as goal

abbrev pub invariant-loop-marks : goal.invariant-loop-marks
invariant-loop-marks l = Counted l.scene.guards l.scene.program.now l.scene.sectors l.most l.table l.marks.items l.left

abbrev pub decreases-loop-marks : goal.decreases-loop-marks
decreases-loop-marks l = 2 ^ 96 - weight l.table
