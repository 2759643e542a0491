use Rattle.std.proofs.Common.{◌≡◌, drop}
use Rattle.std.specs.List.{list_any}
use Rattle.known_runs.specs.Blind.{is_covered}
use Rattle.known_runs.proofs.blind.looks.Given as goal

abbrev pub invariant-loop-sector : goal.invariant-loop-sector
invariant-loop-sector l = list_any (is_covered l.entries) (drop l.sector-index l.looked) ≡ list_any (is_covered l.entries) l.looked
