use Rattle.std.proofs.Common.{◌≡◌, map, flat_map}
use Rattle.std.specs.List.{range_with_len}
use Rattle.verifier.specs.Seen.{arrival_of}
use Rattle.verifier.specs.Passing.{passed_if}
use Rattle.verifier.proofs.rounds.passed_states.Given as goal

abbrev pub invariant-loop-slot : goal.invariant-loop-slot
invariant-loop-slot l = map arrival_of l.waiting.items ≡ flat_map (passed_if l.scene.guards l.scene.program.now l.scene.sectors l.table l.marks) (range_with_len 0 l.slot)
