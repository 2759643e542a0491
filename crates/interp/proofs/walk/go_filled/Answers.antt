use Rattle.std.proofs.Common.{sym, ◌∙◌}
use Rattle.interp.proofs.Filling.{kept, kept_set, filled_after, set_after}
use Rattle.interp.proofs.walk.go_filled.Goals as goal

pub returns-then-has_next-clause-made : goal.returns-then-has_next-clause-made
returns-then-has_next-clause-made g c =
    kept c.args.world.now.program.now c.args.world.now.context (g.D.Device.content c.args.world.now.device.now) c.args.slot c.args.machine.now c.go-going.new.machine c.go-going.result
    c.requires.set (sym c.requires.calls ∙ c.if-not-calls.true) c.go-going.ensures.made

pub returns-then-has_next-clause-set : goal.returns-then-has_next-clause-set
returns-then-has_next-clause-set g c =
    kept_set c.args.world.now.program.now c.args.world.now.context (g.D.Device.content c.args.world.now.device.now) c.args.slot c.args.machine.now c.go-going.new.machine c.go-going.result
    c.requires.set (sym c.requires.calls ∙ c.if-not-calls.true) (sym c.if-has_next.ensures) c.go-going.ensures.made

pub returns-clause-made : goal.returns-clause-made
returns-clause-made g c = filled_after c.args.slot c.go-going.new.machine c.fill.new.self c.go-going.result _ c.fill.ensures c.go-going.ensures.made

pub returns-clause-set : goal.returns-clause-set
returns-clause-set g c = set_after c.go-going.new.machine c.fill.new.self c.fill.ensures
