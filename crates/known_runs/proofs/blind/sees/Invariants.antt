use Rattle.std.proofs.Common.{◌≡◌, drop}
use Rattle.std.specs.List.{list_any}
use Rattle.known_runs.specs.Blind.{sees}
use Rattle.known_runs.proofs.blind.sees.Given as goal

abbrev pub invariant-loop-run : goal.invariant-loop-run
invariant-loop-run l = list_any (sees l.entries) (drop l.run-index l.runs) ≡ list_any (sees l.entries) l.runs
