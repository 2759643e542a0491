use Rattle.std.proofs.Common.{length, refl, ◌∙◌, sym, ap}
use Rattle.std.proofs.lemmas.Option.{slice_get_read}
use Rattle.images.specs.Views.{context_at}
use Rattle.cases.specs.AtCut.{CutValue}
use Rattle.case_runs.proofs.Finding.{fits}
use Rattle.case_runs.proofs.sharing.WorkerAnswers.take_at.Goals as goal

pub take_each-requires-clause-checker : goal.take_each-requires-clause-checker
take_each-requires-clause-checker g c =
    let told = c.in-Some.ensures.lookup in
    slice_get_read c.args.work.now.checkers.now (length c.args.work.now.checkers.now) c.args.first.now.program c.in-Some.checker.now refl told.3.0 told.1

pub take_each-requires-clause-context : goal.take_each-requires-clause-context
take_each-requires-clause-context g c = c.context-context.ensures.value ∙ ap (λ (k : CutValue). context_at k.log k.cut) (sym c.in_ok-cut.ensures)

pub take_each-requires-clause-fit : goal.take_each-requires-clause-fit
take_each-requires-clause-fit g c =
    let told = c.in-Some.ensures.lookup in
    fits c.args.work.now.log.now c.args.first.now.cut c.args.first.now.program c.context-context.result c.args.work.now.checkers.now c.in-Some.checker.now c.context-context.ensures.value
    c.context-context.ensures.small.0 c.context-context.ensures.small.1 c.requires.device
    (slice_get_read c.args.work.now.checkers.now (length c.args.work.now.checkers.now) c.args.first.now.program c.in-Some.checker.now refl told.3.0 told.1)

pub take_each-requires-clause-search : goal.take_each-requires-clause-search
take_each-requires-clause-search g c = record { asked_is = c.in_ok-search.ensures.asked; tears_is = c.in_ok-search.ensures.tears }
