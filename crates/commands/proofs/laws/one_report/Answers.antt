use Rattle.commands.proofs.OneReport.{one_report}
use Rattle.commands.proofs.laws.one_report.Goals as goal

pub returns : goal.returns
returns c = one_report c.text_of_one_log.ensures c.one_program.ensures c.one_verdict.ensures
