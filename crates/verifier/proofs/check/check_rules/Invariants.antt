use Rattle.std.proofs.Common.{◌≡◌, ◌<◌, ℕ, None}
use Rattle.verifier.specs.Tables.{rule_with}
use Rattle.verifier.proofs.check.check_rules.Given as goal

abbrev pub invariant-loop-slot : goal.invariant-loop-slot
invariant-loop-slot l = (s : ℕ) → s < l.slot → rule_with l.scene.guards l.scene.program.now l.table s ≡ None
