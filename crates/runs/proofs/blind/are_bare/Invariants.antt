use Rattle.std.proofs.Common.{◌≡◌, true, take}
use Rattle.std.specs.List.{list_all}
use Rattle.runs.specs.Blind.{is_bare}
use Rattle.runs.proofs.blind.are_bare.Given as goal

abbrev pub invariant-loop-sector : goal.invariant-loop-sector
invariant-loop-sector l = (list_all (is_bare l.entries) (take l.sector-index l.sectors) ≡ true) × (list_all (is_bare l.entries) l.known.items ≡ true)
