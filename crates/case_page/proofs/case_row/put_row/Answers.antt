use Rattle.std.proofs.lemmas.Result.{on_ok_weaker}
use Rattle.losses.specs.FoundCases.{failing_value}
use Rattle.case_page.proofs.CaseTexts.{row_written}
use Rattle.case_page.proofs.case_row.put_row.Goals as goal

pub returns : goal.returns
returns c =
    on_ok_weaker c.put-2.result
    (λ closed. row_written c.args.row.now c.args.parts.now (failing_value c.args.case.now) c.as_slice.result.now _ _ _ _ _ c.as_slice.ensures.value c.in_ok-put_said.ensures c.in_ok-put.ensures
    c.in_ok-put_parts.ensures closed) c.put-2.ensures
