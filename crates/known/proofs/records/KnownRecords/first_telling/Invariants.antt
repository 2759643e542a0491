use Rattle.std.proofs.Common.{◌≡◌, drop}
use Rattle.std.specs.List.{find}
use Rattle.known.specs.Records.{tells}
use Rattle.known.specs.Linked.{there_before}
use Rattle.known.proofs.records.KnownRecords.first_telling.Given as goal

abbrev pub invariant-loop-place : goal.invariant-loop-place
invariant-loop-place g l =
    (find (tells l.self.log l.self.way l.marks (g.D.Device.content l.device)) (drop l.place l.self.runs) ≡ find (tells l.self.log l.self.way l.marks (g.D.Device.content l.device)) l.self.runs)
    × (l.there ≡ there_before l.self (g.D.Device.content l.device) l.place)
