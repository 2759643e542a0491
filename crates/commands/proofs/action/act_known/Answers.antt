use Rattle.std.proofs.Common.{sym}
use Rattle.commands.proofs.action.act_known.Goals as goal

pub returns-in-Images-clause-refused : goal.returns-in-Images-clause-refused
returns-in-Images-clause-refused g c = rw (sym c.in-Images.ensures) c.act_look.ensures.refused

pub returns-in-Log-clause-refused : goal.returns-in-Log-clause-refused
returns-in-Log-clause-refused g c = rw (sym c.in-Log.ensures) c.act_look-in-Log.ensures.refused

pub returns-in-Image-clause-refused : goal.returns-in-Image-clause-refused
returns-in-Image-clause-refused g c = rw (sym c.in-Image.ensures) c.act_look-in-Image.ensures.refused

pub returns-in-Show-clause-refused : goal.returns-in-Show-clause-refused
returns-in-Show-clause-refused g c = rw (sym c.in-Show.ensures) c.act_look-in-Show.ensures.refused

pub returns-in-Export-clause-refused : goal.returns-in-Export-clause-refused
returns-in-Export-clause-refused g c = rw (sym c.in-Export.ensures) c.act_look-in-Export.ensures.refused
