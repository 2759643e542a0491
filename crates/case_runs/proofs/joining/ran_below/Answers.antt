use Rattle.std.proofs.Common.{sym, subst, ◌∙◌, ap}
use Rattle.images.specs.Views.{context_at}
use Rattle.cases.specs.AtCut.{CutValue}
use Rattle.case_runs.specs.Pieces.{IsStart}
use Rattle.case_runs.proofs.Finding.{fits}
use Rattle.case_runs.proofs.joining.ran_below.Goals as goal

pub run_start-requires-clause-context : goal.run_start-requires-clause-context
run_start-requires-clause-context g c = c.context-context.ensures.value ∙ ap (λ (k : CutValue). context_at k.log k.cut) (sym c.in_ok-cut.ensures)

pub run_start-requires-clause-fit : goal.run_start-requires-clause-fit
run_start-requires-clause-fit g c =
    fits c.args.work.now.log.now c.args.number c.args.program c.context-context.result c.args.work.now.checkers.now c.args.checker.now c.context-context.ensures.value c.context-context.ensures.small.0 c.context-context.ensures.small.1
    c.requires.device c.requires.checker

pub run_start-requires-clause-search : goal.run_start-requires-clause-search
run_start-requires-clause-search g c = record { asked_is = c.in_ok-search.ensures.asked; tears_is = c.in_ok-search.ensures.tears }

pub run_start-requires-clause-start : goal.run_start-requires-clause-start
run_start-requires-clause-start g c = subst (λ (k : CutValue). IsStart k c.args.start.now) (sym c.in_ok-cut.ensures) c.requires.start
