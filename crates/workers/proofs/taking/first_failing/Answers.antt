use Rattle.std.proofs.Common.{ℕ, Some, sym, ap, ◌∙◌}
use Rattle.workers.proofs.HandingOver.{least_judged}
use Rattle.workers.proofs.taking.first_failing.Goals as goal

pub beyond_first-requires : goal.beyond_first-requires
beyond_first-requires c =
    least_judged c.args.input.now c.args.piece.now c.in-Some.image c.least_image.result c.requires.piece c.least_image.ensures c.in-Some.is

pub returns-in-Some-clause-value : goal.returns-in-Some-clause-value
returns-in-Some-clause-value c = ap (λ (i : ℕ). Some i) c.beyond_first.ensures.value ∙ sym c.in-Some.is ∙ c.least_image.ensures
