use Rattle.request.specs.declared.settings.CaseTelling.TheVariants as telling
use Rattle.runs.proofs.Casing.{text_by}
use Rattle.runs.proofs.case_command.bytes_of.Goals as goal

pub returns-in-Cases : goal.returns-in-Cases
returns-in-Cases c = text_by telling.Cases c.args.losses.telling c.args.task.now.span.inputs c.args.head.now _ _ c.args.task.now.log.now c.args.found.now c.write_cases.result c.in-Cases.is c.losses_of-asked.ensures c.write_cases.ensures

pub returns-in-Causes : goal.returns-in-Causes
returns-in-Causes c = text_by telling.Causes c.args.losses.telling c.args.task.now.span.inputs c.args.head.now _ _ c.args.task.now.log.now c.args.found.now c.write_why.result c.in-Causes.is c.losses_of-asked.ensures c.write_why.ensures

pub returns-in-Page : goal.returns-in-Page
returns-in-Page c = text_by telling.Page c.args.losses.telling c.args.task.now.span.inputs c.args.head.now _ _ c.args.task.now.log.now c.args.found.now c.case_page.result c.in-Page.is c.losses_of-asked.ensures c.case_page.ensures
