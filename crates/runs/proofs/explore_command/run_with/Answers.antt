use Rattle.std.proofs.Common.{◌≡◌, false, ◌∙◌, sym, subst}
use Rattle.request.specs.declared.extent.Extent.{Extent}
use Rattle.runs.specs.Explore.{for_extent}
use Rattle.runs.specs.Judged.{takes}
use Rattle.runs.proofs.explore_command.run_with.Goals as goal

pub returns-then-not-does_take-clause-refused : goal.returns-then-not-does_take-clause-refused
returns-then-not-does_take-clause-refused g c =
    rw c.option_refusal_of.ensures
    (for_extent (subst (λ (e : Extent). takes c.args.question.now.wanted e ≡ false) c.extent.ensures.value (sym c.does_take.ensures ∙ c.if-not-does_take.true)))

pub returns-clause-refused : goal.returns-clause-refused
returns-clause-refused g c = c.make_run.ensures.refused
