use Rattle.std.proofs.Common.{ℕ, ◌≤◌, ◌^◌, List, length, subst}
use Rattle.std.proofs.lemmas.Result.{IfErr-weaker}
use Rattle.request.specs.Source.{for_log, for_plan}
use Rattle.retold.specs.Retold.{RefusesReport, with_refusal, for_part, too_long, for_source, for_report}
use Rattle.retold.proofs.Bases.{whole_in, part_in, source_in}
use Rattle.retold.proofs.command.retell.Goals as goal

pub returns-in_default : goal.returns-in_default
returns-in_default c = record {
  told = tt;
  refused = rw c.option_refusal_of.ensures (for_part (part_in c.extent.result c.args.options.now c.extent.ensures.value c.in_default.not-Whole));
}

pub returns-then-report-gt-MOST_OF_REPORT-clause-refused : goal.returns-then-report-gt-MOST_OF_REPORT-clause-refused
returns-then-report-gt-MOST_OF_REPORT-clause-refused c =
    too_long (whole_in c.extent.result c.args.options.now c.extent.ensures.value c.in-Whole.is) c.if-report-gt-MOST_OF_REPORT.true

pub returns-in-Err-clause-refused : goal.returns-in-Err-clause-refused
returns-in-Err-clause-refused c =
    for_source _ (whole_in c.extent.result c.args.options.now c.extent.ensures.value c.in-Whole.is) c.if-report-gt-MOST_OF_REPORT.false
    (with_refusal _ (for_log _ c.in-Err.ensures.refused))

pub returns-in-Err-plan_of-clause-refused : goal.returns-in-Err-plan_of-clause-refused
returns-in-Err-plan_of-clause-refused c =
    for_source _ (whole_in c.extent.result c.args.options.now c.extent.ensures.value c.in-Whole.is) c.if-report-gt-MOST_OF_REPORT.false
    (with_refusal _ (for_plan _ c.in-Ok.log c.in-Ok.ensures.log c.in-Err-plan_of.ensures.refused))

pub returns-clause-refused : goal.returns-clause-refused
returns-clause-refused c =
    let s = c.args.options.now in
    let whole = whole_in c.extent.result s c.extent.ensures.value c.in-Whole.is in
    let short : length c.args.report.now ≤ 2 ^ 30 = c.if-report-gt-MOST_OF_REPORT.false in
    let source = source_in c.args.recording.now s c.in-Ok.log _ c.in-Ok.ensures.log c.in-Ok-plan_of.ensures.count c.in-Ok-plan_of.ensures.few c.in-Ok-plan_of.ensures.within in
    IfErr-weaker c.told_by.result _ _ (λ f why. for_report f c.in-Ok.log whole short source (subst (λ (bs : List ℕ). RefusesReport bs s c.in-Ok.log c.args.report.now f) c.log-file.ensures why)) c.told_by.ensures.refused
