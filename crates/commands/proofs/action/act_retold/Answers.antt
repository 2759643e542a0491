use Rattle.std.proofs.Common.{sym, subst}
use Rattle.std.proofs.lemmas.Result.{err_from_is_err_and}
use Rattle.base.specs.declared.refusal.Refusal.{Refusal}
use Rattle.request.specs.Source.{Recording}
use Rattle.retold.specs.Retold.{RefusesRetold}
use Rattle.commands.specs.Acting.{for_words, for_settings, for_given, for_fault, held_by, retold_refusal, RefusesBy, RefusesReportOf}
use Rattle.commands.proofs.Acts.{unread_given}
use Rattle.commands.proofs.action.act_retold.Goals as goal

pub returns-in_err-options-clause-refused : goal.returns-in_err-options-clause-refused
returns-in_err-options-clause-refused c =
    let p = err_from_is_err_and c.from_residual.result c.from_residual.ensures.1 in
    rw (p.1, p.2) (for_words c.in_err-options.field-0.0 c.in_err-options.ensures)

pub returns-in_err-recording-clause-refused : goal.returns-in_err-recording-clause-refused
returns-in_err-recording-clause-refused c =
    let p = err_from_is_err_and c.from_residual-in_err-recording.result c.from_residual-in_err-recording.ensures.1 in
    rw (p.1, p.2)
    (for_settings c.in_ok-options.options c.in_err-recording.field-0.0 c.in_ok-options.ensures
    (unread_given (held_by c.args.files.now) (λ text report. RefusesBy (RefusesRetold text report c.in_ok-options.options) retold_refusal) c.in_err-recording.field-0.0 c.in_err-recording.ensures))

pub returns-in-Ok-clause-answers : goal.returns-in-Ok-clause-answers
returns-in-Ok-clause-answers c =
    let own = c.in-Ok.retold in
    let recording = c.in_ok-recording.recording in
    rw c.answer_of.ensures.bytes
    (record {
      settings = c.in_ok-options.options;
      asked = c.in_ok-options.ensures;
      log = recording.text;
      report = c.in_ok-recording.report.now;
      initial = recording.initial;
      read = c.in_ok-recording.ensures.read;
      second = c.in_ok-recording.ensures.second;
      based = c.in_ok-recording.ensures.based;
      failing = own.failing;
      told = c.in-Ok.ensures.told;
      ends = c.answer_of.ensures.status;
    })

pub returns-in-Err-clause-refused : goal.returns-in-Err-clause-refused
returns-in-Err-clause-refused c =
    let recording = c.in_ok-recording.recording in
    let report = c.in_ok-recording.report.now in
    let options = c.in_ok-options.options in
    let held = c.in_ok-recording.ensures in
    for_settings options c.retold_refusal_of.result c.in_ok-options.ensures
    (subst (λ (r : Refusal). RefusesReportOf (held_by c.args.files.now) options r) (sym c.retold_refusal_of.ensures)
    (for_given recording.text report recording.initial (retold_refusal c.in-Err.fault) held.read held.second held.based (for_fault c.in-Err.fault c.in-Err.ensures.refused)))
