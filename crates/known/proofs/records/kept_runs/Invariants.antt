use Rattle.std.proofs.Common.{◌≡◌, map, take}
use Rattle.known.specs.Records.{kept_value, kept_of_run}
use Rattle.known.specs.Linked.{AreLinked}
use Rattle.known.proofs.records.kept_runs.Given as goal

abbrev pub invariant-loop-run : goal.invariant-loop-run
invariant-loop-run l = (map kept_value l.kept.items ≡ map (kept_of_run l.log l.way) (take l.run-index l.runs)) × AreLinked l.kept.items
