use Rattle.std.proofs.Common.{rules}
use Rattle.interp.specs.Going.{at_slot}
use Rattle.interp.proofs.BothKinds.{storing_is}
use Rattle.interp.proofs.state.CheckedMachine.store_operand.Goals as goal

pub returns-then-not-has : goal.returns-then-not-has
returns-then-not-has g c =
    rw (storing_is c.args.world.now.program.now c.args.world.now.context (g.D.Device.content c.args.world.now.device.now) (at_slot c.args.here.now.slot c.args.self.now) c.args.here.now.ready.now c.args.by_register c.args.size) (search rules)

pub returns-then-not-has_source : goal.returns-then-not-has_source
returns-then-not-has_source g c =
    rw (storing_is c.args.world.now.program.now c.args.world.now.context (g.D.Device.content c.args.world.now.device.now) (at_slot c.args.here.now.slot c.args.self.now) c.args.here.now.ready.now c.args.by_register c.args.size) (search rules)

pub returns : goal.returns
returns g c =
    rw (storing_is c.args.world.now.program.now c.args.world.now.context (g.D.Device.content c.args.world.now.device.now) (at_slot c.args.here.now.slot c.args.self.now) c.args.here.now.ready.now c.args.by_register c.args.size) (search rules)
