use Rattle.std.proofs.Common.{◌≡◌, drop}
use Rattle.std.specs.List.{list_any}
use Rattle.known_runs.specs.Blind.{covers}
use Rattle.known_runs.proofs.blind.is_covered.Given as goal

abbrev pub invariant-loop-entry : goal.invariant-loop-entry
invariant-loop-entry l = list_any (covers l.sector) (drop l.entry-index l.entries) ≡ list_any (covers l.sector) l.entries
