use Rattle.std.proofs.Common.{true, None, Some, ◌∙◌, sym, ap, map}
use Rattle.std.proofs.lemmas.Bool.{false≢true}
use Rattle.std.proofs.lemmas.Result.{err_from_is_err_and}
use Rattle.epochs.specs.Plan.{PlanValue}
use Rattle.request.specs.Source.{for_plan}
use Rattle.runs.specs.declared.explore_command.WantedAnswer.TheVariants as wanted
use Rattle.runs.specs.Blind.{is_noticed}
use Rattle.runs.specs.Cases.{TellsLosses}
use Rattle.runs.specs.Cured.{TellsCure, Cures}
use Rattle.runs.specs.Why.{Tells}
use Rattle.runs.specs.Explore.{for_count, for_source, for_program, no_list_memory, for_rest}
use Rattle.request.specs.Inputs.{inputs_number}
use Rattle.runs.specs.Inputs.{number_told}
use Rattle.runs.specs.declared.explore_command.WantedAnswer.{WantedAnswer}
use Rattle.runs.proofs.Findings.{told_by_number}
use Rattle.runs.proofs.RefusalLemmas.{counted, uncounted, few_decoded, unaccepted_of, undecoded_of, checkers_decoded}
use Rattle.runs.proofs.Fitting.{made_fit}
use Rattle.request.proofs.Logs.{has_images}
use Rattle.runs.proofs.Casing.{is_cases, left_found, losses_by_number, refused_for, cure_refused}
use Rattle.runs.proofs.Runs.{of_log, run_of}
use Rattle.runs.proofs.Tried.{failing_lines_are, images_refused}
use Rattle.runs.proofs.Unseeing.{found_blind}
use Rattle.runs.proofs.explore_command.make_run.Goals as goal

pub returns-then-not-is_program_count-clause-refused : goal.returns-then-not-is_program_count-clause-refused
returns-then-not-is_program_count-clause-refused g c =
    rw c.option_refusal_of.ensures
    (for_rest _ c.requires
    (for_count (λ count. false≢true (sym c.if-not-is_program_count.true ∙ c.is_program_count.ensures.1 (uncounted _ c.args.question.now.programs.now count)))))

pub returns-in_err-log-clause-refused : goal.returns-in_err-log-clause-refused
returns-in_err-log-clause-refused g c =
    let p = err_from_is_err_and c.from_residual.result c.from_residual.ensures.1 in
    rw (p.1, p.2)
    (for_rest _ c.requires
    (of_log _ _ _ _ (counted _ c.args.question.now.programs.now (c.is_program_count.ensures.0 c.if-not-is_program_count.false)) c.in_err-log.ensures.refused))

pub returns-in_err-plan-clause-refused : goal.returns-in_err-plan-clause-refused
returns-in_err-plan-clause-refused g c =
    let p = err_from_is_err_and c.from_residual-in_err-plan.result c.from_residual-in_err-plan.ensures.1 in
    rw (p.1, p.2)
    (for_rest _ c.requires
    (for_source _ (counted _ c.args.question.now.programs.now (c.is_program_count.ensures.0 c.if-not-is_program_count.false))
    (for_plan _ c.in_ok-log.log c.in_ok-log.ensures.log c.in_err-plan.ensures.refused)))

pub returns-in_err-decoded-clause-refused : goal.returns-in_err-decoded-clause-refused
returns-in_err-decoded-clause-refused g c =
    let p = err_from_is_err_and c.from_residual-in_err-decoded.result c.from_residual-in_err-decoded.ensures.1 in
    rw (p.1, p.2, c.in_err-decoded.ensures.refused)
    (for_rest _ c.requires
    (for_program _ c.in_ok-log.log (counted _ c.args.question.now.programs.now (c.is_program_count.ensures.0 c.if-not-is_program_count.false))
    (has_images _ _ _ _ c.in_ok-log.ensures.log c.in_ok-plan.ensures.count c.in_ok-plan.ensures.few c.in_ok-plan.ensures.within)
    no_list_memory))

pub checkers_of-requires : goal.checkers_of-requires
checkers_of-requires g c =
    record { few = few_decoded _ _ c.as_slice.result.now _ (counted _ c.args.question.now.programs.now (c.is_program_count.ensures.0 c.if-not-is_program_count.false)).few c.as_slice.ensures.value c.in_ok-decoded.ensures.decoded }

pub returns-in_err-checkers-clause-refused : goal.returns-in_err-checkers-clause-refused
returns-in_err-checkers-clause-refused g c =
    let p = err_from_is_err_and c.from_residual-in_err-checkers.result c.from_residual-in_err-checkers.ensures.1 in
    rw (p.1, p.2)
    (for_rest _ c.requires
    (for_program _ c.in_ok-log.log (counted _ c.args.question.now.programs.now (c.is_program_count.ensures.0 c.if-not-is_program_count.false))
    (has_images _ _ _ _ c.in_ok-log.ensures.log c.in_ok-plan.ensures.count c.in_ok-plan.ensures.few c.in_ok-plan.ensures.within)
    (unaccepted_of _ _ _ c.as_slice.result.now _ _ c.as_slice.ensures.value c.in_ok-decoded.ensures.decoded c.in_err-checkers.ensures.refused)))

pub returns-in-Some-clause-refused : goal.returns-in-Some-clause-refused
returns-in-Some-clause-refused g c =
    for_rest _ c.requires
    (for_program _ c.in_ok-log.log (counted _ c.args.question.now.programs.now (c.is_program_count.ensures.0 c.if-not-is_program_count.false))
    (has_images _ _ _ _ c.in_ok-log.ensures.log c.in_ok-plan.ensures.count c.in_ok-plan.ensures.few c.in_ok-plan.ensures.within)
    (undecoded_of _ _ _ c.as_slice.result.now _ _ _ c.as_slice.ensures.value c.in_ok-decoded.ensures.decoded c.in-Some.is
    c.in_ok-checkers.ensures.made c.in_ok-checkers.ensures.all))

pub judge_log-requires-clause-verified : goal.judge_log-requires-clause-verified
judge_log-requires-clause-verified g c =
    λ κs lives. rw c.as_slice-made.ensures.value (made_fit c.args.question.now.options.now c.as_slice.result.now c.in_ok-checkers.field-0.checkers.items c.in_ok-checkers.ensures.made)

pub returns-in-Ok-clause-told : goal.returns-in-Ok-clause-told
returns-in-Ok-clause-told g c =
    rw (c.in-Told.is, c.answer_of.ensures.explored)
    (run_of c.accepted_checkers_run_safely.ensures (Tells c.in-Told.telling (inputs_number c.args.question.now.recording.now.text _)) _ _ _ c.in_ok-log.log c.in_ok-checkers.field-0.checkers.items c.as_slice-made.result.now _ _
    (counted _ c.args.question.now.programs.now (c.is_program_count.ensures.0 c.if-not-is_program_count.false))
    (has_images _ _ _ _ c.in_ok-log.ensures.log c.in_ok-plan.ensures.count c.in_ok-plan.ensures.few c.in_ok-plan.ensures.within)
    (checkers_decoded _ _ _ c.as_slice.result.now _ _ c.as_slice.ensures.value c.in_ok-decoded.ensures.decoded c.in_default.not-Some
    c.in_ok-checkers.ensures.made c.in_ok-checkers.ensures.all)
    c.as_slice-made.ensures.value
    (told_by_number c.in-Told.telling _ c.span_of-span.result.inputs c.args.question.now.options.now c.in_ok-log.log c.as_slice-made.result.now c.in-Ok.told.explored.bytes.items
    (c.span_of-span.ensures.number ∙ ap (λ (w : WantedAnswer). number_told w c.args.question.now.options.now.extent c.args.question.now.options.now.cuts (inputs_number c.args.question.now.recording.now.text (map (λ f. f.items) c.args.question.now.programs.now))) c.in-Told.is) c.in-Ok.ensures.bytes)
    c.in-Ok.ensures.failing)

pub returns-in-Ok-clause-blind : goal.returns-in-Ok-clause-blind
returns-in-Ok-clause-blind g c =
    rw (c.in-Told.is, c.answer_of.ensures.blind)
    (found_blind (wanted.Told c.in-Told.telling) _ _ c.args.question.now.options.now c.in_ok-log.log c.in_ok-checkers.field-0.checkers.items c.as_slice-made.result.now _
    (has_images _ _ _ _ c.in_ok-log.ensures.log c.in_ok-plan.ensures.count c.in_ok-plan.ensures.few c.in_ok-plan.ensures.within)
    (checkers_decoded _ _ _ c.as_slice.result.now _ _ c.as_slice.ensures.value c.in_ok-decoded.ensures.decoded c.in_default.not-Some
    c.in_ok-checkers.ensures.made c.in_ok-checkers.ensures.all)
    c.as_slice-made.ensures.value
    (c.in-Ok.ensures.blind ∙ ap (λ (p : PlanValue). map (is_noticed p) c.as_slice-made.result.now) c.in_ok-plan.ensures.plan))

pub returns-in-Told-clause-refused : goal.returns-in-Told-clause-refused
returns-in-Told-clause-refused g c =
    for_rest _ c.requires
    (for_source _ (counted _ c.args.question.now.programs.now (c.is_program_count.ensures.0 c.if-not-is_program_count.false))
    (for_plan _ c.in_ok-log.log c.in_ok-log.ensures.log c.in-Err.ensures.refused))

pub cured_log-requires-clause-verified : goal.cured_log-requires-clause-verified
cured_log-requires-clause-verified g c =
    λ κs lives. rw c.as_slice-made.ensures.value (made_fit c.args.question.now.options.now c.as_slice.result.now c.in_ok-checkers.field-0.checkers.items c.in_ok-checkers.ensures.made)

pub returns-in-Ok-cured_log-clause-told : goal.returns-in-Ok-cured_log-clause-told
returns-in-Ok-cured_log-clause-told g c =
    rw (c.in-Cured.is, c.answer_of-in-Ok-cured_log.ensures.explored)
    (run_of c.accepted_checkers_run_safely.ensures (TellsCure None) _ _ _ c.in_ok-log.log c.in_ok-checkers.field-0.checkers.items c.as_slice-made.result.now _ _
    (counted _ c.args.question.now.programs.now (c.is_program_count.ensures.0 c.if-not-is_program_count.false))
    (has_images _ _ _ _ c.in_ok-log.ensures.log c.in_ok-plan.ensures.count c.in_ok-plan.ensures.few c.in_ok-plan.ensures.within)
    (checkers_decoded _ _ _ c.as_slice.result.now _ _ c.as_slice.ensures.value c.in_ok-decoded.ensures.decoded c.in_default.not-Some
    c.in_ok-checkers.ensures.made c.in_ok-checkers.ensures.all)
    c.as_slice-made.ensures.value c.in-Ok-cured_log.ensures.cured.tells
    (failing_lines_are c.args.question.now.options.now c.in_ok-log.log c.as_slice-made.result.now _ _ c.in-Ok-cured_log.ensures.cured))

pub returns-in-Ok-cured_log-clause-blind : goal.returns-in-Ok-cured_log-clause-blind
returns-in-Ok-cured_log-clause-blind g c =
    rw (c.in-Cured.is, c.answer_of-in-Ok-cured_log.ensures.blind)
    (found_blind wanted.Cured _ _ c.args.question.now.options.now c.in_ok-log.log c.in_ok-checkers.field-0.checkers.items c.as_slice-made.result.now _
    (has_images _ _ _ _ c.in_ok-log.ensures.log c.in_ok-plan.ensures.count c.in_ok-plan.ensures.few c.in_ok-plan.ensures.within)
    (checkers_decoded _ _ _ c.as_slice.result.now _ _ c.as_slice.ensures.value c.in_ok-decoded.ensures.decoded c.in_default.not-Some
    c.in_ok-checkers.ensures.made c.in_ok-checkers.ensures.all)
    c.as_slice-made.ensures.value
    c.in-Ok-cured_log.ensures.blind)

pub returns-in-Cured-clause-refused : goal.returns-in-Cured-clause-refused
returns-in-Cured-clause-refused g c =
    for_rest _ c.requires
    (for_source _ (counted _ c.args.question.now.programs.now (c.is_program_count.ensures.0 c.if-not-is_program_count.false))
    (for_plan _ c.in_ok-log.log c.in_ok-log.ensures.log
    (images_refused c.args.question.now.options.now c.as_slice-made.result.now c.in_ok-log.log _ c.in-Err-cured_log.ensures.refused)))

pub cured_log-requires-in-CuredCases-clause-verified : goal.cured_log-requires-in-CuredCases-clause-verified
cured_log-requires-in-CuredCases-clause-verified g c =
    λ κs lives. rw c.as_slice-made.ensures.value (made_fit c.args.question.now.options.now c.as_slice.result.now c.in_ok-checkers.field-0.checkers.items c.in_ok-checkers.ensures.made)

pub returns-in-Ok-cured_log-2-clause-told : goal.returns-in-Ok-cured_log-2-clause-told
returns-in-Ok-cured_log-2-clause-told g c =
    rw (c.in-CuredCases.is, c.answer_of-in-Ok-cured_log-2.ensures.explored)
    (is_cases (Cures (Some c.in-CuredCases.losses)) _ _ c.args.question.now.options.now c.in_ok-log.log c.in_ok-checkers.field-0.checkers.items c.as_slice-made.result.now _ _
    (counted _ c.args.question.now.programs.now (c.is_program_count.ensures.0 c.if-not-is_program_count.false))
    (has_images _ _ _ _ c.in_ok-log.ensures.log c.in_ok-plan.ensures.count c.in_ok-plan.ensures.few c.in_ok-plan.ensures.within)
    (checkers_decoded _ _ _ c.as_slice.result.now _ _ c.as_slice.ensures.value c.in_ok-decoded.ensures.decoded c.in_default.not-Some
    c.in_ok-checkers.ensures.made c.in_ok-checkers.ensures.all)
    c.as_slice-made.ensures.value c.in-Ok-cured_log-2.ensures.cured)

pub returns-in-Ok-cured_log-2-clause-blind : goal.returns-in-Ok-cured_log-2-clause-blind
returns-in-Ok-cured_log-2-clause-blind g c =
    rw (c.in-CuredCases.is, c.answer_of-in-Ok-cured_log-2.ensures.blind)
    (found_blind (wanted.CuredCases c.in-CuredCases.losses) _ _ c.args.question.now.options.now c.in_ok-log.log c.in_ok-checkers.field-0.checkers.items c.as_slice-made.result.now _
    (has_images _ _ _ _ c.in_ok-log.ensures.log c.in_ok-plan.ensures.count c.in_ok-plan.ensures.few c.in_ok-plan.ensures.within)
    (checkers_decoded _ _ _ c.as_slice.result.now _ _ c.as_slice.ensures.value c.in_ok-decoded.ensures.decoded c.in_default.not-Some
    c.in_ok-checkers.ensures.made c.in_ok-checkers.ensures.all)
    c.as_slice-made.ensures.value
    c.in-Ok-cured_log-2.ensures.blind)

pub returns-in-CuredCases-clause-refused : goal.returns-in-CuredCases-clause-refused
returns-in-CuredCases-clause-refused g c =
    cure_refused c.args.question.now.wanted c.in-CuredCases.losses _ _ c.args.question.now.options.now c.in_ok-log.log c.in_ok-checkers.field-0.checkers.items c.as_slice-made.result.now _
    c.in-CuredCases.is c.requires
    (counted _ c.args.question.now.programs.now (c.is_program_count.ensures.0 c.if-not-is_program_count.false))
    (has_images _ _ _ _ c.in_ok-log.ensures.log c.in_ok-plan.ensures.count c.in_ok-plan.ensures.few c.in_ok-plan.ensures.within)
    (checkers_decoded _ _ _ c.as_slice.result.now _ _ c.as_slice.ensures.value c.in_ok-decoded.ensures.decoded c.in_default.not-Some
    c.in_ok-checkers.ensures.made c.in_ok-checkers.ensures.all)
    c.as_slice-made.ensures.value c.in-Err-cured_log-2.ensures.refused

pub told_cases-requires-clause-verified : goal.told_cases-requires-clause-verified
told_cases-requires-clause-verified g c =
    λ κs lives. rw c.as_slice-made.ensures.value (made_fit c.args.question.now.options.now c.as_slice.result.now c.in_ok-checkers.field-0.checkers.items c.in_ok-checkers.ensures.made)

pub returns-in-Ok-told_cases-clause-told : goal.returns-in-Ok-told_cases-clause-told
returns-in-Ok-told_cases-clause-told g c =
    rw (c.in-Cases.is, c.answer_of-in-Ok-told_cases.ensures.explored)
    (is_cases
    (TellsLosses c.args.question.now.options.now.first (inputs_number c.args.question.now.recording.now.text (map (λ f. f.items) c.args.question.now.programs.now)) c.in-Cases.losses) _ _ c.args.question.now.options.now c.in_ok-log.log c.in_ok-checkers.field-0.checkers.items c.as_slice-made.result.now _ _
    (counted _ c.args.question.now.programs.now (c.is_program_count.ensures.0 c.if-not-is_program_count.false))
    (has_images _ _ _ _ c.in_ok-log.ensures.log c.in_ok-plan.ensures.count c.in_ok-plan.ensures.few c.in_ok-plan.ensures.within)
    (checkers_decoded _ _ _ c.as_slice.result.now _ _ c.as_slice.ensures.value c.in_ok-decoded.ensures.decoded c.in_default.not-Some
    c.in_ok-checkers.ensures.made c.in_ok-checkers.ensures.all)
    c.as_slice-made.ensures.value
    (losses_by_number c.args.question.now.options.now.first c.in-Cases.losses c.span_of-span-in-Cases.result.inputs _ c.args.question.now.options.now c.in_ok-log.log c.as_slice-made.result.now _ _
    (c.span_of-span-in-Cases.ensures.number ∙ ap (λ (w : WantedAnswer). number_told w c.args.question.now.options.now.extent c.args.question.now.options.now.cuts (inputs_number c.args.question.now.recording.now.text (map (λ f. f.items) c.args.question.now.programs.now))) c.in-Cases.is)
    c.in-Ok-told_cases.ensures.told))

pub returns-in-Ok-told_cases-clause-blind : goal.returns-in-Ok-told_cases-clause-blind
returns-in-Ok-told_cases-clause-blind g c =
    rw (c.in-Cases.is, c.answer_of-in-Ok-told_cases.ensures.blind)
    (found_blind (wanted.Cases c.in-Cases.losses) _ _ c.args.question.now.options.now c.in_ok-log.log c.in_ok-checkers.field-0.checkers.items c.as_slice-made.result.now _
    (has_images _ _ _ _ c.in_ok-log.ensures.log c.in_ok-plan.ensures.count c.in_ok-plan.ensures.few c.in_ok-plan.ensures.within)
    (checkers_decoded _ _ _ c.as_slice.result.now _ _ c.as_slice.ensures.value c.in_ok-decoded.ensures.decoded c.in_default.not-Some
    c.in_ok-checkers.ensures.made c.in_ok-checkers.ensures.all)
    c.as_slice-made.ensures.value
    (c.in-Ok-told_cases.ensures.blind ∙ ap (λ (p : PlanValue). map (is_noticed p) c.as_slice-made.result.now) c.in_ok-plan.ensures.plan))

pub returns-clause-refused : goal.returns-clause-refused
returns-clause-refused g c =
    refused_for c.args.question.now.wanted c.in-Cases.losses _ _ c.args.question.now.options.now c.in_ok-log.log c.in_ok-checkers.field-0.checkers.items c.as_slice-made.result.now _
    c.in-Cases.is c.requires
    (counted _ c.args.question.now.programs.now (c.is_program_count.ensures.0 c.if-not-is_program_count.false))
    (has_images _ _ _ _ c.in_ok-log.ensures.log c.in_ok-plan.ensures.count c.in_ok-plan.ensures.few c.in_ok-plan.ensures.within)
    (checkers_decoded _ _ _ c.as_slice.result.now _ _ c.as_slice.ensures.value c.in_ok-decoded.ensures.decoded c.in_default.not-Some
    c.in_ok-checkers.ensures.made c.in_ok-checkers.ensures.all)
    c.as_slice-made.ensures.value c.in-Err-told_cases.ensures.refused

pub returns-in-Ok-clause-left : goal.returns-in-Ok-clause-left
returns-in-Ok-clause-left g c = rw (c.in-Told.is, c.answer_of.ensures.left_out) c.in-Ok.ensures.left

pub returns-in-Ok-cured_log-clause-left : goal.returns-in-Ok-cured_log-clause-left
returns-in-Ok-cured_log-clause-left g c = rw (c.in-Cured.is, c.answer_of-in-Ok-cured_log.ensures.left_out) c.in-Ok-cured_log.ensures.left

pub returns-in-Ok-cured_log-2-clause-left : goal.returns-in-Ok-cured_log-2-clause-left
returns-in-Ok-cured_log-2-clause-left g c = rw (c.in-CuredCases.is, c.answer_of-in-Ok-cured_log-2.ensures.left_out) c.in-Ok-cured_log-2.ensures.left

pub returns-in-Ok-told_cases-clause-left : goal.returns-in-Ok-told_cases-clause-left
returns-in-Ok-told_cases-clause-left g c =
    rw (c.in-Cases.is, c.answer_of-in-Ok-told_cases.ensures.explored, c.answer_of-in-Ok-told_cases.ensures.left_out)
    (left_found c.in-Cases.losses _ _ c.args.question.now.options.now c.in_ok-log.log c.in_ok-checkers.field-0.checkers.items c.as_slice-made.result.now _ _
    (has_images _ _ _ _ c.in_ok-log.ensures.log c.in_ok-plan.ensures.count c.in_ok-plan.ensures.few c.in_ok-plan.ensures.within)
    (checkers_decoded _ _ _ c.as_slice.result.now _ _ c.as_slice.ensures.value c.in_ok-decoded.ensures.decoded c.in_default.not-Some
    c.in_ok-checkers.ensures.made c.in_ok-checkers.ensures.all)
    c.as_slice-made.ensures.value c.in-Ok-told_cases.ensures.left)
