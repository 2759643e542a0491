use Rattle.std.proofs.Common.{◌≤◌}
use Rattle.known.specs.Linked.{count_there}
use Rattle.known.proofs.records.there_from.Given as goal

abbrev pub invariant-loop-place : goal.invariant-loop-place
invariant-loop-place g l = l.from ≤ count_there (g.D.Device.content l.device) l.sectors → l.place ≤ count_there (g.D.Device.content l.device) l.sectors
