use Rattle.std.proofs.Common.{◌≡◌, ◌∙◌, Option, None, Some, ℕ, sym, ap}
use Rattle.std.specs.Option.{option_map}
use Rattle.machine.specs.Step.{Stepped, answer_step}
use Rattle.machine.specs.Guards.{goes_next}
use Rattle.interp.specs.Going.{at_slot}
use Rattle.interp.proofs.Reached.{sum_unset, sum_is, summed_anywhere}
use Rattle.interp.proofs.state.CheckedMachine.go_summed.Goals as goal

pub returns-then-not-has_arguments-clause-made : goal.returns-then-not-has_arguments-clause-made
returns-then-not-has_arguments-clause-made g c =
    sum_unset c.args.world.now.program.now (g.D.Device.content c.args.world.now.device.now) c.args.memory.now (at_slot c.args.slot c.args.self.now) c.args.checksum (sym c.has_arguments.ensures ∙ c.if-not-has_arguments.true)

pub returns-in-None-clause-made : goal.returns-in-None-clause-made
returns-in-None-clause-made g c =
    let s = at_slot c.args.slot c.args.self.now in
    let program = c.args.world.now.program.now in
    let device = g.D.Device.content c.args.world.now.device.now in
    let set = sym c.has_arguments.ensures ∙ c.if-not-has_arguments.false in
    ap (λ (x : Option ℕ). option_map (λ (answer : ℕ). goes_next program s (answer_step s answer)) x)
    (sym c.in-None.is ∙ c.summed.ensures ∙ summed_anywhere device c.args.memory.now c.args.self.now c.args.slot c.args.checksum)
    ∙ sum_is program device c.args.memory.now s c.args.checksum set

pub returns-in-Some-clause-made : goal.returns-in-Some-clause-made
returns-in-Some-clause-made g c =
    let s = at_slot c.args.slot c.args.self.now in
    let program = c.args.world.now.program.now in
    let device = g.D.Device.content c.args.world.now.device.now in
    let set = sym c.has_arguments.ensures ∙ c.if-not-has_arguments.false in
    ap (λ (x : Stepped). Some x) c.answer_next.ensures.made
    ∙ ap (λ (x : Option ℕ). option_map (λ (answer : ℕ). goes_next program s (answer_step s answer)) x)
    (sym c.in-Some.is ∙ c.summed.ensures ∙ summed_anywhere device c.args.memory.now c.args.self.now c.args.slot c.args.checksum)
    ∙ sum_is program device c.args.memory.now s c.args.checksum set
