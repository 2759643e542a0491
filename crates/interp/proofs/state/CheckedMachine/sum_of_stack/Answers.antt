use Rattle.std.proofs.Common.{◌≤◌, ◌∙◌, List, ℕ, Option, None, Some, sym, ap, arith}
use Rattle.std.specs.Option.{option_map}
use Rattle.helpers.specs.Sums.{sum_answer}
use Rattle.machine.specs.State.{stack_start}
use Rattle.interp.proofs.Reached.{stack_bytes}
use Rattle.interp.proofs.state.CheckedMachine.sum_of_stack.Goals as goal

pub returns-in-Some : goal.returns-in-Some
returns-in-Some g c =
    let le : stack_start ≤ c.args.address = omega arith in
    c.sum_within.ensures
    ∙ ap (option_map (sum_answer c.args.polynomial c.args.seed))
    (stack_bytes c.args.self.now.frames c.args.address c.args.count (Some c.in-Some.stack) le (sym c.in-Some.is ∙ c.known_stack.ensures.known))

pub returns-in-None : goal.returns-in-None
returns-in-None g c =
    let le : stack_start ≤ c.args.address = omega arith in
    ap (option_map (sum_answer c.args.polynomial c.args.seed))
    (stack_bytes c.args.self.now.frames c.args.address c.args.count None le (sym c.in-None.is ∙ c.known_stack.ensures.known))
