use Rattle.std.proofs.Common.{◌+◌, ◌∙◌, arith}
use Rattle.base.specs.Numbers.{number_bytes}
use Rattle.machine.specs.Memory.{byte_count}
use Rattle.machine.specs.Step.{go_to}
use Rattle.interp.specs.Going.{at_slot}
use Rattle.interp.proofs.Reached.{lies_in, writes}
use Rattle.interp.proofs.state.CheckedMachine.store_own.Goals as goal

pub write_low-requires-clause-above : goal.write_low-requires-clause-above
write_low-requires-clause-above g c = (lies_in (g.D.Device.content c.args.world.now.device.now) c.args.address (byte_count c.args.size) c.requires.inside).low

pub write_low-requires-clause-inside : goal.write_low-requires-clause-inside
write_low-requires-clause-inside g c =
    let high = (lies_in (g.D.Device.content c.args.world.now.device.now) c.args.address (byte_count c.args.size) c.requires.inside).high in
    omega (arith, high, c.requires.long)

pub returns-clause-made : goal.returns-clause-made
returns-clause-made g c =
    writes c.args.world.now.program.now (g.D.Device.content c.args.world.now.device.now) c.args.memory.now c.write_low.new.memory (at_slot c.args.slot c.args.self.now) c.args.address (byte_count c.args.size) (number_bytes (byte_count c.args.size) c.args.word)
    (go_to (c.args.slot + 1) (at_slot c.args.slot c.args.self.now)) _ c.requires.inside c.write_low.ensures.written (c.next_after.ensures.made c.args.self.now c.args.self.now)
