use Rattle.losses.specs.FoundCases.{failing_value}
use Rattle.case_page.proofs.CaseTexts.{case_told}
use Rattle.case_page.proofs.case_row.put_case.Goals as goal

pub returns : goal.returns
returns c =
    case_told c.args.site.now.at c.args.site.now.tears (failing_value c.args.case.now) (record { by = c.by.result; tears = c.tears.result; window = c.in_ok-window.window }) c.parts.result.now _ _
    c.parts.ensures.value c.by.ensures c.tears.ensures c.in_ok-window.ensures c.in_ok-put_row.ensures
