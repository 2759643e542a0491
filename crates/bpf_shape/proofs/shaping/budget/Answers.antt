use Rattle.bpf_shape.proofs.Budgets.{has_budget}
use Rattle.bpf_shape.proofs.shaping.budget.Goals as goal

pub returns : goal.returns
returns c =
    has_budget c.args.program.now c.in_ok-followed.followed.items c.in_ok-longest.longest c.turns.result c.steps.result c.requires.edges c.requires.loops
    c.requires.program.count.some c.in_ok-followed.ensures c.in_ok-longest.ensures c.turns.ensures.value c.steps.ensures
