use Rattle.std.proofs.lemmas.Result.{err_from_is_err_and}
use Rattle.commands.specs.Acting.{for_trial_words, for_trial}
use Rattle.commands.proofs.Acts.{no_program_file, no_image_file, no_lines_file}
use Rattle.commands.proofs.action.act_check.Goals as goal

pub returns-in_err-trial-clause-refused : goal.returns-in_err-trial-clause-refused
returns-in_err-trial-clause-refused c =
    let p = err_from_is_err_and c.from_residual.result c.from_residual.ensures.1 in
    rw (p.1, p.2) (for_trial_words c.in_err-trial.field-0.0 c.in_err-trial.ensures)

pub returns-in_err-code-clause-refused : goal.returns-in_err-code-clause-refused
returns-in_err-code-clause-refused c =
    let p = err_from_is_err_and c.from_residual-in_err-code.result c.from_residual-in_err-code.ensures.1 in
    rw (p.1, p.2) (no_program_file _ _ c.in_err-code.field-0.0 c.in_ok-trial.trial c.in_ok-trial.ensures c.in_err-code.ensures)

pub returns-in_err-image-clause-refused : goal.returns-in_err-image-clause-refused
returns-in_err-image-clause-refused c =
    let p = err_from_is_err_and c.from_residual-in_err-image.result c.from_residual-in_err-image.ensures.1 in
    rw (p.1, p.2) (no_image_file _ _ c.in_err-image.field-0.0 c.in_ok-trial.trial c.in_ok-code.code.now c.in_ok-trial.ensures c.in_ok-code.ensures c.in_err-image.ensures)

pub returns-in_err-lines-clause-refused : goal.returns-in_err-lines-clause-refused
returns-in_err-lines-clause-refused c =
    let p = err_from_is_err_and c.from_residual-in_err-lines.result c.from_residual-in_err-lines.ensures.1 in
    rw (p.1, p.2)
    (no_lines_file _ _ c.in_err-lines.field-0.0 c.in_ok-trial.trial c.in_ok-code.code.now c.in_ok-image.image.now c.in_ok-trial.ensures c.in_ok-code.ensures c.in_ok-image.ensures
    c.in_err-lines.ensures)

pub returns-in_err-report-clause-refused : goal.returns-in_err-report-clause-refused
returns-in_err-report-clause-refused c =
    let p = err_from_is_err_and c.from_residual-in_err-report.result c.from_residual-in_err-report.ensures.1 in
    rw (p.1, p.2)
    (for_trial c.in_ok-trial.trial c.in_ok-code.code.now c.in_ok-image.image.now c.in_ok-lines.lines.now c.in_err-report.field-0.0 c.in_ok-trial.ensures c.in_ok-code.ensures c.in_ok-image.ensures
    c.in_ok-lines.ensures
    c.in_err-report.ensures.refused)

pub returns-clause-answers : goal.returns-clause-answers
returns-clause-answers c = rw c.answer_of.ensures.bytes (record {
  trial = c.in_ok-trial.trial;
  asked = c.in_ok-trial.ensures;
  program = c.in_ok-code.code.now;
  image = c.in_ok-image.image.now;
  lines = c.in_ok-lines.lines.now;
  read = c.in_ok-code.ensures;
  shown = c.in_ok-image.ensures;
  named = c.in_ok-lines.ensures;
  failing = c.in_ok-report.report.failing;
  tried = c.in_ok-report.ensures.tried;
  ends = c.answer_of.ensures.status;
})

pub returns-clause-knows : goal.returns-clause-knows
returns-clause-knows c = rw c.answer_of.ensures.facts (record {
  trial = c.in_ok-trial.trial;
  asked = c.in_ok-trial.ensures;
  program = c.in_ok-code.code.now;
  image = c.in_ok-image.image.now;
  read = c.in_ok-code.ensures;
  shown = c.in_ok-image.ensures;
  knows = record {
    found = c.in_ok-report.report.unreached;
    is = c.in_ok-report.ensures.unreached;
    unreached = c.of_program-facts.ensures.unreached;
    blind = c.of_program-facts.ensures.blind;
    left = c.of_program-facts.ensures.left_out;
  };
})
