use Rattle.std.proofs.Common.{map}
use Rattle.ranges.specs.SeenStates.{state_of}
use Rattle.verifier.specs.Seen.{arrival_of}
use Rattle.verifier.proofs.Edges.{by_both}
use Rattle.verifier.proofs.passing.push_passed_on.Goals as goal

pub returns : goal.returns
returns c =
    rw (c.in_ok-push_along-2.ensures, c.in_ok-push_along.ensures)
    (by_both c.args.scene.now.guards c.args.scene.now.shape.now.heads c.args.scene.now.sectors c.args.slot (state_of c.args.state.now) c.args.instr.now (map arrival_of c.args.waiting.now.items))
