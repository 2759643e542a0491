use Rattle.std.proofs.Common.{map, take}
use Rattle.verifier.specs.Seen.{arrival_of}
use Rattle.verifier.specs.Passing.{Arrived, Kept}
use Rattle.verifier.proofs.rounds.arrive_all.Given as goal

abbrev pub invariant-loop-arrival : goal.invariant-loop-arrival
invariant-loop-arrival l =
    Arrived l.initial.table (map arrival_of (take l.arrival-index l.waiting)) l.table l.changed × Kept l.initial.table l.initial.marks.items l.table l.marks.items
