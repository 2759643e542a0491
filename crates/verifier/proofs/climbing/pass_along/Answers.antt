use Rattle.std.proofs.Common.{arith}
use Rattle.ranges.specs.SeenStates.{state_of}
use Rattle.verifier.proofs.Ways.{fits_along, comes_along, learns_along}
use Rattle.verifier.proofs.climbing.pass_along.Goals as goal

pub lead_along-requires : goal.lead_along-requires
lead_along-requires c =
    fits_along c.args.edge c.args.scene.now.guards c.args.scene.now.program.now c.args.scene.now.sectors c.args.table.now c.args.slot c.in-Some.to c.args.instr.now c.args.scene.now.shape.now.heads c.effect_at-effect.result (state_of c.copy_state.new.room) (record {
      few = omega (arith, c.args.scene.now.few);
      made = c.slots-slots.ensures.program;
      shape = c.args.scene.now.rules;
      states = c.slots-states.ensures.states;
      long = c.requires.long;
      there = c.requires.instr;
      rounds = c.args.scene.now.heads_are;
    })
    (rw c.end_of.ensures at c.in-Some.is) c.effect_at-effect.ensures c.if-copy_state.ensures

pub returns-in-Some-way_to : goal.returns-in-Some-way_to
returns-in-Some-way_to c =
    learns_along c.args.edge c.args.scene.now.guards c.args.scene.now.program.now c.args.scene.now.sectors c.args.table.now c.arrive_along.new.table c.args.slot c.in-Some.to c.args.instr.now c.args.scene.now.shape.now.heads c.effect_at-effect.result c.in-Some-way_to.way (record {
      few = omega (arith, c.args.scene.now.few);
      made = c.slots-slots.ensures.program;
      shape = c.args.scene.now.rules;
      states = c.slots-states.ensures.states;
      long = c.requires.long;
      there = c.requires.instr;
      rounds = c.args.scene.now.heads_are;
    })
    (rw c.end_of.ensures at c.in-Some.is) c.effect_at-effect.ensures (rw c.is_head.ensures at c.in-Some-way_to.ensures) c.arrive_along.ensures

pub returns-then-copy_state : goal.returns-then-copy_state
returns-then-copy_state c =
    comes_along c.args.edge c.args.scene.now.guards c.args.scene.now.program.now c.args.scene.now.sectors c.args.table.now c.lead_along.new.table c.args.slot c.in-Some.to c.args.instr.now c.args.scene.now.shape.now.heads c.effect_at-effect.result (state_of c.copy_state.new.room) (record {
      few = omega (arith, c.args.scene.now.few);
      made = c.slots-slots.ensures.program;
      shape = c.args.scene.now.rules;
      states = c.slots-states.ensures.states;
      long = c.requires.long;
      there = c.requires.instr;
      rounds = c.args.scene.now.heads_are;
    })
    (rw c.end_of.ensures at c.in-Some.is) c.effect_at-effect.ensures c.if-copy_state.ensures c.lead_along.ensures
