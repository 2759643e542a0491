use Rattle.std.proofs.Common.{◌∙◌, sym, ap}
use Rattle.choices.specs.Sums.{StartsValue}
use Rattle.request.proofs.Results.{both_ok}
use Rattle.runs.proofs.Missed.{marks_within}
use Rattle.runs.proofs.Tried.{failures_found}
use Rattle.runs.proofs.curing.failures_of_lines.Goals as goal

pub failures_of-requires-clause-by : goal.failures_of-requires-clause-by
failures_of-requires-clause-by c = c.by.ensures ∙ sym (ap (λ (t : StartsValue). t.plan.by) c.requires.starts)

pub failures_of-requires-clause-log : goal.failures_of-requires-clause-log
failures_of-requires-clause-log c = ap (λ (t : StartsValue). t.plan.log) c.requires.starts

pub failures_of-requires-clause-images : goal.failures_of-requires-clause-images
failures_of-requires-clause-images c =
    λ i m there.
    let task = c.args.task.now in
    marks_within c.lines_are_set.ensures task.options.now task.log.now task.checkers.now c.args.starts.now c.args.lines.now c.as_slice.result.now i m
    c.requires.starts c.requires.lines (c.as_slice.ensures.value ∙ c.in_ok-marks.ensures) there

pub returns : goal.returns
returns c =
    let task = c.args.task.now in
    both_ok c.failures_of.result _ _ _ c.failures_of.ensures c.failures_of.ensures
    (λ fs are again.
    failures_found c.lines_are_set.ensures task.options.now task.log.now task.checkers.now c.args.starts.now c.args.lines.now c.as_slice.result.now fs.items
    c.requires.starts c.requires.lines (c.as_slice.ensures.value ∙ c.in_ok-marks.ensures) are)
