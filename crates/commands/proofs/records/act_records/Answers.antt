use Rattle.std.proofs.Common.{sym, subst, ap, ◌∙◌}
use Rattle.std.proofs.lemmas.Result.{err_from_is_err_and}
use Rattle.base.specs.declared.refusal.Refusal.{Refusal}
use Rattle.request.specs.declared.known.KnownSearch.{KnownSearch}
use Rattle.known_runs.specs.Asked.{KnownAsked}
use Rattle.known_runs.specs.Told.{RefusesKnown}
use Rattle.commands.specs.Acting.{for_words, for_settings, for_given, for_fault, for_search, for_records, held_by, records_refusal, search_asked, TellsRecords, RefusesBy, RefusesRecords}
use Rattle.commands.proofs.Acts.{unread_given}
use Rattle.commands.proofs.records.act_records.Goals as goal

pub returns-in_err-options-clause-refused : goal.returns-in_err-options-clause-refused
returns-in_err-options-clause-refused c =
    let p = err_from_is_err_and c.from_residual.result c.from_residual.ensures.1 in
    rw (p.1, p.2) (for_words c.in_err-options.field-0.0 c.in_err-options.ensures)

pub returns-in_err-search-clause-refused : goal.returns-in_err-search-clause-refused
returns-in_err-search-clause-refused c =
    let p = err_from_is_err_and c.from_residual-in_err-search.result c.from_residual-in_err-search.ensures.1 in
    rw (p.1, p.2) (for_settings c.in_ok-options.options c.in_err-search.field-0.0 c.in_ok-options.ensures (for_search c.in_err-search.field-0.0 c.in_err-search.ensures))

pub returns-in_err-recording-clause-refused : goal.returns-in_err-recording-clause-refused
returns-in_err-recording-clause-refused c =
    let p = err_from_is_err_and c.from_residual-in_err-recording.result c.from_residual-in_err-recording.ensures.1 in
    let options = c.in_ok-options.options in
    rw (p.1, p.2)
    (for_settings options c.in_err-recording.field-0.0 c.in_ok-options.ensures
    (for_records c.in_err-recording.field-0.0 c.in_ok-search.ensures.1
    (unread_given (held_by c.args.files.now) _ c.in_err-recording.field-0.0 c.in_err-recording.ensures)))

pub returns-in-Ok-clause-answers : goal.returns-in-Ok-clause-answers
returns-in-Ok-clause-answers c =
    let recording = c.in_ok-recording.recording in
    let held = c.in_ok-recording.ensures in
    record {
      settings = c.in_ok-options.options;
      asked = c.in_ok-options.ensures;
      good = c.in_ok-search.ensures.1;
      log = recording.text;
      records = c.in_ok-recording.records.now;
      initial = recording.initial;
      read = held.read;
      second = held.second;
      based = held.based;
      told =
          subst (λ (a : KnownAsked). TellsRecords c.args.known.telling a c.in-Ok.acted.bytes.items c.in-Ok.acted.status)
          (c.question_of-question.ensures ∙ ap (λ (k : KnownSearch). search_asked recording c.in_ok-recording.records.now k c.in_ok-options.options) (sym c.in_ok-search.ensures.0)) c.in-Ok.ensures.told;
    }

pub returns-in-Err-clause-refused : goal.returns-in-Err-clause-refused
returns-in-Err-clause-refused c =
    let recording = c.in_ok-recording.recording in
    let records = c.in_ok-recording.records.now in
    let options = c.in_ok-options.options in
    let held = c.in_ok-recording.ensures in
    let refused =
    subst (λ (a : KnownAsked). RefusesKnown a c.in-Err.fault)
    (c.question_of-question.ensures ∙ ap (λ (k : KnownSearch). search_asked recording records k options) (sym c.in_ok-search.ensures.0)) c.in-Err.ensures.refused in
    for_settings options c.records_refusal_of.result c.in_ok-options.ensures
    (subst (λ (r : Refusal). RefusesRecords c.args.known (held_by c.args.files.now) options r) (sym c.records_refusal_of.ensures)
    (for_records (records_refusal c.in-Err.fault) c.in_ok-search.ensures.1
    (for_given recording.text records recording.initial (records_refusal c.in-Err.fault) held.read held.second held.based (for_fault c.in-Err.fault refused))))
