use Rattle.std.proofs.Common.{◌∙◌, sym, ap}
use Rattle.choices.specs.Sums.{StartsValue}
use Rattle.request.proofs.Results.{both_ok}
use Rattle.runs.proofs.Missed.{marks_within, failures_are, windows_within}
use Rattle.runs.proofs.missing.failures_found.Goals as goal

pub failures_of-requires-clause-by : goal.failures_of-requires-clause-by
failures_of-requires-clause-by c = c.by.ensures ∙ sym (ap (λ (t : StartsValue). t.plan.by) c.args.findings.now.starts_are)

pub failures_of-requires-clause-log : goal.failures_of-requires-clause-log
failures_of-requires-clause-log c = ap (λ (t : StartsValue). t.plan.log) c.args.findings.now.starts_are

pub failures_of-requires-clause-images : goal.failures_of-requires-clause-images
failures_of-requires-clause-images c =
    λ i m there.
    let found = c.args.findings.now in
    let task = found.task.now in
    marks_within c.lines_are_set.ensures task.options.now task.log.now task.checkers.now found.starts.now found.lines.now found.marks.now i m
    found.starts_are c.requires.lines found.marks_are there

pub returns-clause-failures : goal.returns-clause-failures
returns-clause-failures c =
    let found = c.args.findings.now in
    let task = found.task.now in
    both_ok c.failures_of.result _ _ _ c.failures_of.ensures c.failures_of.ensures
    (λ fs are again.
    failures_are c.lines_are_set.ensures task.options.now task.log.now task.checkers.now found.starts.now found.lines.now found.marks.now fs.items
    found.starts_are c.requires.lines found.marks_are are)

pub returns-clause-inside : goal.returns-clause-inside
returns-clause-inside c =
    let found = c.args.findings.now in
    let task = found.task.now in
    both_ok c.failures_of.result _ _ _ c.failures_of.ensures c.failures_of.ensures
    (λ fs are again. windows_within task.options.now task.log.now found.starts.now found.marks.now fs.items found.starts_are are)
