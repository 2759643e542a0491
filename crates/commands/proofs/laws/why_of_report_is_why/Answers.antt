use Rattle.commands.proofs.OfReport.{why_of_report_is_why}
use Rattle.commands.proofs.laws.why_of_report_is_why.Goals as goal

pub returns : goal.returns
returns c =
    why_of_report_is_why (record {
      texts = c.text_of_one_log.ensures;
      programs = c.one_program.ensures;
      verdicts = c.one_verdict.ensures;
    })
