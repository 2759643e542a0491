use Rattle.std.proofs.Common.{ap, ◌∙◌, arith}
use Rattle.machine.specs.Memory.{byte_count}
use Rattle.interp.specs.Accesses.{extended}
use Rattle.interp.specs.Going.{at_slot}
use Rattle.interp.proofs.Reached.{lies_in, loads}
use Rattle.interp.proofs.state.CheckedMachine.load_own.Goals as goal

pub number_in-value-requires-clause-above : goal.number_in-value-requires-clause-above
number_in-value-requires-clause-above g c = (lies_in (g.D.Device.content c.args.world.now.device.now) c.args.address (byte_count c.args.size) c.requires.inside).low

pub number_in-value-requires-clause-inside : goal.number_in-value-requires-clause-inside
number_in-value-requires-clause-inside g c =
    let high = (lies_in (g.D.Device.content c.args.world.now.device.now) c.args.address (byte_count c.args.size) c.requires.inside).high in
    omega (arith, high, c.requires.long)

pub returns-clause-made : goal.returns-clause-made
returns-clause-made g c =
    loads c.args.world.now.program.now (g.D.Device.content c.args.world.now.device.now) c.args.memory.now (at_slot c.args.slot c.args.self.now) c.args.dst c.args.address (byte_count c.args.size) (extended c.args.signed c.args.size) c.extended.result _
    c.requires.inside (c.extended.ensures ∙ ap (extended c.args.signed c.args.size) c.number_in-value.ensures) c.set_next.ensures.made
