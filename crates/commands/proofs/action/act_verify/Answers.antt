use Rattle.std.proofs.Common.{refl}
use Rattle.std.proofs.lemmas.Result.{err_from_is_err_and}
use Rattle.commands.specs.Acting.{for_words, for_settings, for_held}
use Rattle.commands.proofs.Acts.{unread_file}
use Rattle.commands.proofs.action.act_verify.Goals as goal

pub returns-in_err-options-clause-refused : goal.returns-in_err-options-clause-refused
returns-in_err-options-clause-refused c =
    let p = err_from_is_err_and c.from_residual.result c.from_residual.ensures.1 in
    rw (p.1, p.2) (for_words c.in_err-options.field-0.0 c.in_err-options.ensures)

pub returns-in_err-code-clause-refused : goal.returns-in_err-code-clause-refused
returns-in_err-code-clause-refused c =
    let p = err_from_is_err_and c.from_residual-in_err-code.result c.from_residual-in_err-code.ensures.1 in
    rw (p.1, p.2) (for_settings c.in_ok-options.options c.in_err-code.field-0.0 c.in_ok-options.ensures (unread_file _ _ c.in_err-code.field-0.0 c.in_err-code.ensures))

pub returns-in_err-report-clause-refused : goal.returns-in_err-report-clause-refused
returns-in_err-report-clause-refused c =
    let p = err_from_is_err_and c.from_residual-in_err-report.result c.from_residual-in_err-report.ensures.1 in
    rw (p.1, p.2)
    (for_settings c.in_ok-options.options c.in_err-report.field-0.0 c.in_ok-options.ensures
    (for_held c.in_ok-code.code.now c.in_err-report.field-0.0 c.in_ok-code.ensures c.in_err-report.ensures.refused))

pub returns-clause-answers : goal.returns-clause-answers
returns-clause-answers c = record {
  settings = c.in_ok-options.options;
  asked = c.in_ok-options.ensures;
  answers = record { held = c.in_ok-code.code.now; read = c.in_ok-code.ensures; is = c.in_ok-report.ensures.accepted; ends = refl };
}

pub returns-clause-knows : goal.returns-clause-knows
returns-clause-knows c = record {
  settings = c.in_ok-options.options;
  asked = c.in_ok-options.ensures;
  program = c.in_ok-code.code.now;
  read = c.in_ok-code.ensures;
  knows = record {
    found = c.in_ok-report.report.unreached;
    is = c.in_ok-report.ensures.unreached;
    unreached = c.of_program.ensures.unreached;
    blind = c.of_program.ensures.blind;
    left = c.of_program.ensures.left_out;
  };
}
