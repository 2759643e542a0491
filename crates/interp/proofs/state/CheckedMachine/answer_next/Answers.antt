use Rattle.std.proofs.Common.{◌+◌, ap, subst, sym, ◌∙◌, ◌≡◌}
use Rattle.machine.specs.State.{State}
use Rattle.machine.specs.Guards.{filled, goes_next}
use Rattle.machine.specs.Step.{go_to, with_answer}
use Rattle.interp.specs.Going.{at_slot}
use Rattle.interp.proofs.Filling.{kept_filled}
use Rattle.interp.proofs.state.CheckedMachine.answer_next.Goals as goal

pub returns-clause-made : goal.returns-clause-made
returns-clause-made g c =
    c.next_after.ensures.made c.args.self.now c.answer.new.self
    ∙ ap (λ (t : State). goes_next c.args.world.now.program.now (at_slot c.args.slot c.args.self.now) (go_to (c.args.slot + 1) t)) c.answer.ensures

pub returns-clause-set : goal.returns-clause-set
returns-clause-set g c = λ was.
    subst (λ (t : State). filled t ≡ t) (sym c.answer.ensures) (kept_filled c.args.self.now (with_answer c.args.self.now.registers c.args.answer) was)
