use Rattle.std.proofs.Common.{sym, ◌∙◌, arith}
use Rattle.join.specs.CaseTexts.{is_mixed_of_run}
use Rattle.join.specs.CaseReading.{mixed_value}
use Rattle.join.proofs.CaseJudged.{all_fails}
use Rattle.join.proofs.case_parts.judging.are_mixed_of_run.Goals as goal

pub returns-then-not-is_mixed_of_run : goal.returns-then-not-is_mixed_of_run
returns-then-not-is_mixed_of_run c =
    sym (all_fails (is_mixed_of_run c.args.by c.args.tears c.args.cut) mixed_value c.args.mixed.now c.loop-one.one-index c.one-item.result (omega (arith, c.loop-one-test.true)) c.one-item.is
    (sym c.is_mixed_of_run.ensures ∙ c.if-not-is_mixed_of_run.true))
