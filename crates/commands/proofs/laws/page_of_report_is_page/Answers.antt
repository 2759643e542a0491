use Rattle.commands.proofs.OfReport.{page_of_report_is_page}
use Rattle.commands.proofs.laws.page_of_report_is_page.Goals as goal

pub returns : goal.returns
returns c =
    page_of_report_is_page (record {
      texts = c.text_of_one_log.ensures;
      programs = c.one_program.ensures;
      verdicts = c.one_verdict.ensures;
    })
