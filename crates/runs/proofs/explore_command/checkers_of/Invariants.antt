use Rattle.std.proofs.Common.{◌≡◌, length}
use Rattle.runs.specs.Programs.{AreFirstMade}
use Rattle.runs.proofs.Finding.{Finding}
use Rattle.runs.proofs.explore_command.checkers_of.Given as goal

abbrev pub invariant-loop-number : goal.invariant-loop-number
invariant-loop-number l =
    (AreFirstMade l.options l.programs l.checkers.items × (length l.checkers.items ≡ l.number)) × Finding l.options.checked l.options.sectors l.programs l.number l.unreached.items
