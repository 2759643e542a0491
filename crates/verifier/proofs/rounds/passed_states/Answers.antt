use Rattle.std.proofs.Common.{◌∙◌, map}
use Rattle.verifier.specs.Seen.{arrival_of}
use Rattle.verifier.specs.Passing.{passed_if}
use Rattle.verifier.proofs.Settled.{one_slot_more}
use Rattle.verifier.proofs.rounds.passed_states.Goals as goal

pub loop-slot-preserved : goal.loop-slot-preserved
loop-slot-preserved c =
    c.in_ok-push_marked.ensures
    ∙ one_slot_more (passed_if c.args.scene.now.guards c.args.scene.now.program.now c.args.scene.now.sectors c.args.table.now c.args.marks.now) c.loop-slot.slot (map arrival_of c.loop-slot.waiting.items) c.loop-slot.invariant
