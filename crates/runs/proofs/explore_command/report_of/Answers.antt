use Rattle.std.proofs.Common.{◌∙◌, sym}
use Rattle.request.proofs.Results.{both_ok}
use Rattle.runs.proofs.Findings.{no_part, report_of_found, part_of_found}
use Rattle.runs.proofs.explore_command.report_of.Goals as goal

pub returns-in-Part : goal.returns-in-Part
returns-in-Part c =
    let task = c.args.task.now in
    both_ok c.write_part.result _ _ _ c.write_part.ensures c.write_part.ensures
    (λ bytes is again.
    part_of_found task.options.now task.log.now task.checkers.now c.first.result c.in_ok-head.head c.args.lines.now bytes.items task.span _ _
    c.first.ensures c.in_ok-head.ensures c.requires.lines task.judged (sym c.in-Part.is ∙ c.extent.ensures.value) is)

pub returns : goal.returns
returns c =
    let task = c.args.task.now in
    both_ok c.write_report.result _ _ _ c.write_report.ensures c.write_report.ensures
    (λ bytes is again.
    report_of_found task.options.now task.log.now task.checkers.now task.span.inputs c.first.result c.in_ok-head.head c.args.lines.now bytes.items
    c.first.ensures c.in_ok-head.ensures c.requires.lines
    (no_part c.extent.result task.options.now.extent c.extent.ensures.value c.in_default.not-Part) is)
