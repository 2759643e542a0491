use Rattle.std.proofs.Common.{◌≡◌, ◌∙◌, ap, sym, subst, map, position, is_none, None}
use Rattle.std.proofs.lemmas.Result.{err_from_is_err_and}
use Rattle.commands.specs.Acting.{for_run, AnswersRun}
use Rattle.commands.specs.Knowing.{KnowsRun}
use Rattle.runs.specs.Explore.{RefusesWanted}
use Rattle.commands.proofs.Acts.{no_file, no_log, no_program, no_base, files_read, memory_wanting}
use Rattle.request.proofs.Results.{both_ok, one_err}
use Rattle.commands.proofs.action.explore_readable.Goals as goal

pub returns-in_default-clause-refused : goal.returns-in_default-clause-refused
returns-in_default-clause-refused g c = no_file (λ f. f.items) c.args.files.now.named.now _ _ _ c.in_default.ensures.cases c.unreadable.ensures

pub returns-in_default-first-clause-refused : goal.returns-in_default-first-clause-refused
returns-in_default-first-clause-refused g c =
    no_log (λ f. f.items) c.args.files.now.named.now c.in-Some.first.now c.in-Some.others.now _ _ _ c.in-Some.ensures.cases.0 c.in_default-first.is c.unreadable-in_default-first.ensures

pub returns-in-Some-first_unreadable-clause-refused : goal.returns-in-Some-first_unreadable-clause-refused
returns-in-Some-first_unreadable-clause-refused g c =
    no_program (λ f. f.items) c.args.files.now.named.now c.in-Some.first.now c.in-Some.others.now c.in-Some-first.log c.in-Some-first_unreadable.place _ _ _
    c.in-Some.ensures.cases.0 c.in-Some-first.is (sym c.in-Some-first_unreadable.ensures) c.unreadable-in-Some-first_unreadable.ensures

pub returns-in_err-initial-clause-refused : goal.returns-in_err-initial-clause-refused
returns-in_err-initial-clause-refused g c =
    let p = err_from_is_err_and c.from_residual.result c.from_residual.ensures.1 in
    let readable : position is_none c.in-Some.others.now ≡ None = sym c.first_unreadable.ensures ∙ c.in_default-first_unreadable.is in
    rw (p.1, p.2)
    (no_base (λ f. f.items) c.args.files.now.named.now c.in-Some.first.now c.in-Some.others.now c.in-Some-first.log _ _ c.in_err-initial.field-0.0
    c.in-Some.ensures.cases.0 c.in-Some-first.is readable c.in_err-initial.ensures)

pub returns-in-Ok-clause-answers : goal.returns-in-Ok-clause-answers
returns-in-Ok-clause-answers g c =
    let readable : position is_none c.in-Some.others.now ≡ None = sym c.first_unreadable.ensures ∙ c.in_default-first_unreadable.is in
    both_ok c.explore_files.result _ _ _ c.explore_files.ensures.answers c.explore_files.ensures.answers
    (λ answer run same. record {
      log = c.as_slice.result.now;
      programs = map (λ f. f.items) c.as_slice-in-Ok.result.now;
      initial = c.in_ok-initial.initial.now;
      based = c.in_ok-initial.ensures;
      read = files_read (λ f. f.items) c.args.files.now.named.now c.in-Some.first.now c.in-Some.others.now c.in-Some-first.log c.as_slice.result.now _
          c.in-Some.ensures.cases.0 c.in-Some-first.is readable c.as_slice.ensures.value (ap (map (λ f. f.items)) c.as_slice-in-Ok.ensures.value ∙ c.in-Ok.ensures);
      answers = subst (λ text. AnswersRun c.args.wanted c.args.options.now text (map (λ f. f.items) c.as_slice-in-Ok.result.now) answer.bytes.items answer.status) c.of-recording.ensures run;
    })

pub returns-in-Ok-clause-refused : goal.returns-in-Ok-clause-refused
returns-in-Ok-clause-refused g c =
    let readable : position is_none c.in-Some.others.now ≡ None = sym c.first_unreadable.ensures ∙ c.in_default-first_unreadable.is in
    one_err c.explore_files.result _ _ c.explore_files.ensures.refused
    (λ r refused.
    for_run c.as_slice.result.now (map (λ f. f.items) c.as_slice-in-Ok.result.now) c.in_ok-initial.initial.now r
    (files_read (λ f. f.items) c.args.files.now.named.now c.in-Some.first.now c.in-Some.others.now c.in-Some-first.log c.as_slice.result.now _
    c.in-Some.ensures.cases.0 c.in-Some-first.is readable c.as_slice.ensures.value (ap (map (λ f. f.items)) c.as_slice-in-Ok.ensures.value ∙ c.in-Ok.ensures))
    c.in_ok-initial.ensures (subst (λ text. RefusesWanted c.args.wanted text (map (λ f. f.items) c.as_slice-in-Ok.result.now) c.args.options.now r) c.of-recording.ensures refused))

pub returns-in-Err-clause-refused : goal.returns-in-Err-clause-refused
returns-in-Err-clause-refused g c =
    let readable : position is_none c.in-Some.others.now ≡ None = sym c.first_unreadable.ensures ∙ c.in_default-first_unreadable.is in
    memory_wanting (λ f. f.items) c.args.files.now.named.now c.in-Some.first.now c.in-Some.others.now c.in-Some-first.log _ _ _ c.in-Some.ensures.cases.0 c.in-Some-first.is readable c.of_memory.ensures

pub returns-in-Ok-clause-knows : goal.returns-in-Ok-clause-knows
returns-in-Ok-clause-knows g c =
    let readable : position is_none c.in-Some.others.now ≡ None = sym c.first_unreadable.ensures ∙ c.in_default-first_unreadable.is in
    both_ok c.explore_files.result _ _ _ c.explore_files.ensures.knows c.explore_files.ensures.knows
    (λ answer known same. record {
      log = c.as_slice.result.now;
      programs = map (λ f. f.items) c.as_slice-in-Ok.result.now;
      initial = c.in_ok-initial.initial.now;
      based = c.in_ok-initial.ensures;
      read = files_read (λ f. f.items) c.args.files.now.named.now c.in-Some.first.now c.in-Some.others.now c.in-Some-first.log c.as_slice.result.now _
          c.in-Some.ensures.cases.0 c.in-Some-first.is readable c.as_slice.ensures.value (ap (map (λ f. f.items)) c.as_slice-in-Ok.ensures.value ∙ c.in-Ok.ensures);
      knows = subst (λ text. KnowsRun c.args.wanted c.args.options.now text (map (λ f. f.items) c.as_slice-in-Ok.result.now) answer.status answer.facts) c.of-recording.ensures known;
    })
