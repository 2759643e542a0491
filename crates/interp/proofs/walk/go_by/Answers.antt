use Rattle.std.proofs.Common.{◌≡◌, ◌∙◌, None, rules, sym}
use Rattle.interp.specs.Going.{at_slot, settled_of}
use Rattle.interp.proofs.Reached.{made_sum, made_reached, made_beside, reaches_anywhere, with_same, no_checksum}
use Rattle.interp.proofs.walk.go_by.Goals as goal

pub returns-in-Some-clause-made : goal.returns-in-Some-clause-made
returns-in-Some-clause-made g c =
    with_same c.args.memory.now c.args.slot c.go_summed.new.self c.go_summed.result
    ∙ made_sum c.args.world.now.program.now c.args.world.now.context (g.D.Device.content c.args.world.now.device.now) c.args.memory.now (at_slot c.args.slot c.args.machine.now) c.args.instr.now c.in-Some.checksum _
    (sym c.checksum_asked.ensures ∙ c.in-Some.is) c.go_summed.ensures.made

pub go_own-requires : goal.go_own-requires
go_own-requires g c = (search rules, (c.requires.slot, (c.requires.long, sym c.reaches.ensures ∙ c.if-reaches.true)))

pub returns-then-reaches-clause-made : goal.returns-then-reaches-clause-made
returns-then-reaches-clause-made g c =
    made_reached c.args.world.now.program.now c.args.world.now.context (g.D.Device.content c.args.world.now.device.now) c.args.memory.now (at_slot c.args.slot c.args.machine.now) c.args.instr.now _
    (sym c.checksum_asked.ensures ∙ no_checksum c.checksum_asked.result c.in_default.not-Some) c.requires.here (sym (c.reaches.ensures ∙ reaches_anywhere (g.D.Device.content c.args.world.now.device.now) c.args.machine.now c.args.slot c.args.instr.now) ∙ c.if-reaches.true) c.go_own.ensures.made

pub returns-clause-made : goal.returns-clause-made
returns-clause-made g c =
    with_same c.args.memory.now c.args.slot c.go_stack.new.machine c.go_stack.result
    ∙ made_beside c.args.world.now.program.now c.args.world.now.context (g.D.Device.content c.args.world.now.device.now) c.args.memory.now (at_slot c.args.slot c.args.machine.now) c.args.instr.now _
    (sym c.checksum_asked.ensures ∙ no_checksum c.checksum_asked.result c.in_default.not-Some) c.requires.here (sym (c.reaches.ensures ∙ reaches_anywhere (g.D.Device.content c.args.world.now.device.now) c.args.machine.now c.args.slot c.args.instr.now) ∙ c.if-reaches.false) c.go_stack.ensures.made
