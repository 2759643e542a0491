use Rattle.std.proofs.Common.{refl}
use Rattle.std.proofs.lemmas.Result.{err_from_is_err_and}
use Rattle.commands.specs.Acting.{for_words, for_settings, for_recording}
use Rattle.commands.proofs.Acts.{unread_recording}
use Rattle.commands.proofs.action.act_look.Goals as goal

pub returns-in_err-options-clause-refused : goal.returns-in_err-options-clause-refused
returns-in_err-options-clause-refused c =
    let p = err_from_is_err_and c.from_residual.result c.from_residual.ensures.1 in
    rw (p.1, p.2) (for_words c.in_err-options.field-0.0 c.in_err-options.ensures)

pub returns-in_err-recording-clause-refused : goal.returns-in_err-recording-clause-refused
returns-in_err-recording-clause-refused c =
    let p = err_from_is_err_and c.from_residual-in_err-recording.result c.from_residual-in_err-recording.ensures.1 in
    rw (p.1, p.2) (for_settings c.in_ok-options.options c.in_err-recording.field-0.0 c.in_ok-options.ensures (unread_recording _ _ _ c.in_err-recording.ensures))

pub returns-in_err-bytes-clause-refused : goal.returns-in_err-bytes-clause-refused
returns-in_err-bytes-clause-refused c =
    let p = err_from_is_err_and c.from_residual-in_err-bytes.result c.from_residual-in_err-bytes.ensures.1 in
    let read = c.in_ok-recording.ensures in
    rw (p.1, p.2)
    (for_settings c.in_ok-options.options c.in_err-bytes.field-0.0 c.in_ok-options.ensures
    (for_recording c.in_ok-recording.recording.text c.in_ok-recording.recording.initial c.in_err-bytes.field-0.0 read.read read.based c.in_err-bytes.ensures.refused))

pub returns-clause-answers : goal.returns-clause-answers
returns-clause-answers c =
    rw (c.answer_of.ensures.bytes, c.answer_of.ensures.status)
    (record {
      settings = c.in_ok-options.options;
      asked = c.in_ok-options.ensures;
      answers = record {
        held = c.in_ok-recording.recording.text;
        initial = c.in_ok-recording.recording.initial;
        read = c.in_ok-recording.ensures.read;
        based = c.in_ok-recording.ensures.based;
        is = c.in_ok-bytes.ensures.shown;
        ends = refl;
      };
    })
