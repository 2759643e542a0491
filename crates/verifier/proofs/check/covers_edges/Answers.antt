use Rattle.ranges.specs.SeenStates.{state_of}
use Rattle.verifier.proofs.Covering.{covered_after, left_out_first}
use Rattle.verifier.proofs.check.covers_edges.Goals as goal

pub returns-then-covers_along : goal.returns-then-covers_along
returns-then-covers_along c =
    covered_after c.args.scene.now.guards c.args.table.now c.args.scene.now.shape.now.heads c.args.scene.now.sectors c.args.slot (state_of c.args.state.now) c.args.instr.now
    (c.covers_along.ensures.0 c.if-covers_along.true) c.covers_along-then-covers_along.ensures

pub returns-else-covers_along : goal.returns-else-covers_along
returns-else-covers_along c =
    left_out_first c.args.scene.now.guards c.args.table.now c.args.scene.now.shape.now.heads c.args.scene.now.sectors c.args.slot (state_of c.args.state.now) c.args.instr.now
    c.covers_along.result c.if-covers_along.false c.covers_along.ensures.1
