use Rattle.std.proofs.Common.{ℕ, ◌∙◌, ◌-◌, List, length, ap}
use Rattle.std.proofs.lemmas.Result.{err_from_is_err_and}
use Rattle.base.specs.Refusals.{memory_refusal}
use Rattle.commands.specs.Acting.{for_words, for_settings, for_memory, held_by, marked_report}
use Rattle.commands.proofs.Acts.{files_readable, has_first}
use Rattle.commands.proofs.action.act_marked.Goals as goal

pub returns-in_err-options-clause-refused : goal.returns-in_err-options-clause-refused
returns-in_err-options-clause-refused g c =
    let p = err_from_is_err_and c.from_residual.result c.from_residual.ensures.1 in
    rw (p.1, p.2) (for_words c.in_err-options.field-0.0 c.in_err-options.ensures)

pub returns-in_err-acted-clause-refused : goal.returns-in_err-acted-clause-refused
returns-in_err-acted-clause-refused g c =
    let p = err_from_is_err_and c.from_residual-in_err-acted.result c.from_residual-in_err-acted.ensures.1 in
    rw (p.1, p.2) (for_settings c.in_ok-options.options c.in_err-acted.field-0.0 c.in_ok-options.ensures c.in_err-acted.ensures.refused)

pub returns-in_err-log-clause-refused : goal.returns-in_err-log-clause-refused
returns-in_err-log-clause-refused g c =
    let own = c.in_ok-acted.ensures.answers in
    absurd (has_first (held_by c.args.files.now) own.log own.programs own.read c.in_err-log.ensures.0)

pub returns-in-Ok-clause-answers : goal.returns-in-Ok-clause-answers
returns-in-Ok-clause-answers g c = record {
  report = c.in_ok-acted.acted.bytes.items;
  answers = record { settings = c.in_ok-options.options; asked = c.in_ok-options.ensures; answers = c.in_ok-acted.ensures.answers };
  log = c.in_ok-log.log.now;
  read = c.in_ok-log.ensures;
  marks = c.in-Ok.ensures ∙ ap (λ (bs : List ℕ). marked_report c.in_ok-log.log.now (length (held_by c.args.files.now).named - 1) bs) c.as_slice.ensures.value;
}

pub returns-clause-refused : goal.returns-clause-refused
returns-clause-refused g c =
    let own = c.in_ok-acted.ensures.answers in
    rw c.of_memory.ensures
    (for_settings c.in_ok-options.options memory_refusal c.in_ok-options.ensures (for_memory (files_readable (held_by c.args.files.now) own.log own.programs own.read)))

pub returns-in-Ok-clause-knows : goal.returns-in-Ok-clause-knows
returns-in-Ok-clause-knows g c = record { settings = c.in_ok-options.options; asked = c.in_ok-options.ensures; knows = c.in_ok-acted.ensures.knows }
