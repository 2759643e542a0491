use Rattle.std.proofs.Common.{◌<◌, ℕ}
use Rattle.verifier.specs.Good.{IsGoodAt}
use Rattle.verifier.proofs.check.check_slots.Given as goal

abbrev pub invariant-loop-slot : goal.invariant-loop-slot
invariant-loop-slot l = (s : ℕ) → s < l.slot → IsGoodAt l.scene.guards l.scene.program.now l.scene.sectors l.table s
