use Rattle.std.proofs.Common.{◌∙◌}
use Rattle.request.proofs.Results.{both_ok}
use Rattle.runs.proofs.Explained.{are_images, causes_of_lines}
use Rattle.runs.proofs.Pages.{page_of_lines}
use Rattle.runs.proofs.explore_command.why_of.Goals as goal

pub invariant_of-findings : goal.invariant_of-findings
invariant_of-findings c =
    record {
      starts_are = c.requires.starts;
      history_is = c.requires.history;
      text_is = c.as_str.ensures.value ∙ c.in_ok-text.ensures;
      marks_are = c.as_slice.ensures.value ∙ c.in_ok-marks.ensures;
    }

pub causes_text-requires-clause-images : goal.causes_text-requires-clause-images
causes_text-requires-clause-images c =
    λ program.
    let task = c.args.task.now in
    are_images c.lines_are_set.ensures task.options.now task.log.now task.checkers.now c.args.starts.now c.args.lines.now c.as_slice.result.now program
    c.requires.starts c.requires.lines (c.as_slice.ensures.value ∙ c.in_ok-marks.ensures)

pub page_bytes-requires-clause-images : goal.page_bytes-requires-clause-images
page_bytes-requires-clause-images c =
    λ program.
    let task = c.args.task.now in
    are_images c.lines_are_set.ensures task.options.now task.log.now task.checkers.now c.args.starts.now c.args.lines.now c.as_slice.result.now program
    c.requires.starts c.requires.lines (c.as_slice.ensures.value ∙ c.in_ok-marks.ensures)

pub returns-in-Text : goal.returns-in-Text
returns-in-Text c =
    let task = c.args.task.now in
    rw c.in-Text.is
    (both_ok c.causes_text.result _ _ _ c.causes_text.ensures c.causes_text.ensures
    (λ bytes tells again.
    causes_of_lines task.options.now task.log.now task.checkers.now c.in_ok-head.head c.args.starts.now c.args.lines.now bytes.items
    c.in_ok-head.ensures c.requires.starts c.requires.lines tells))

pub returns : goal.returns
returns c =
    let task = c.args.task.now in
    rw c.in-Page.is
    (both_ok c.page_bytes.result _ _ _ c.page_bytes.ensures c.page_bytes.ensures
    (λ bytes tells again.
    page_of_lines task.options.now task.log.now task.checkers.now c.in_ok-head.head c.args.starts.now c.args.lines.now c.as_slice.result.now bytes.items
    c.in_ok-head.ensures c.requires.starts c.requires.lines (c.as_slice.ensures.value ∙ c.in_ok-marks.ensures) tells))
