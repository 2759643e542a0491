use Rattle.std.proofs.Common.{◌+◌, ℕ, List, Option, Some, slice_set, ap, subst, sym, ◌∙◌, ◌≡◌}
use Rattle.machine.specs.State.{State}
use Rattle.machine.specs.Guards.{filled, goes_next}
use Rattle.machine.specs.Step.{go_to}
use Rattle.interp.specs.Going.{at_slot}
use Rattle.interp.proofs.Filling.{kept_filled}
use Rattle.interp.proofs.state.CheckedMachine.set_next.Goals as goal

pub returns-clause-made : goal.returns-clause-made
returns-clause-made g c =
    c.next_after.ensures.made c.args.self.now c.set.new.self
    ∙ ap (λ (t : State). goes_next c.args.world.now.program.now (at_slot c.args.slot c.args.self.now) (go_to (c.args.slot + 1) t)) c.set.ensures

pub returns-clause-set : goal.returns-clause-set
returns-clause-set g c = λ was.
    subst (λ (t : State). filled t ≡ t) (sym c.set.ensures) (kept_filled c.args.self.now (slice_set c.args.self.now.registers c.args.dst (Some c.args.value)) was)
