use Rattle.commands.proofs.action.shown.Goals as goal

pub returns-in-Images-clause-shown : goal.returns-in-Images-clause-shown
returns-in-Images-clause-shown c = rw c.in-Images.is c.survey.ensures.told

pub returns-in-Log-clause-shown : goal.returns-in-Log-clause-shown
returns-in-Log-clause-shown c = rw c.in-Log.is c.shown_log.ensures.shown

pub returns-in-Export-clause-shown : goal.returns-in-Export-clause-shown
returns-in-Export-clause-shown c = rw c.in-Export.is c.export_images.ensures.told
