use Rattle.std.proofs.Common.{refl, sym}
use Rattle.command_line.proofs.parsed.Parsed.request.Goals as goal

pub returns-in-Some-Explore : goal.returns-in-Some-Explore
returns-in-Some-Explore c = rw (sym c.verb_of.ensures, c.in-Some-Explore.is, c.in-Some-Explore.field-0-is) c.explore.ensures

pub returns-in-Some-Images : goal.returns-in-Some-Images
returns-in-Some-Images c = rw (sym c.verb_of.ensures, c.in-Some-Images.is, c.in-Some-Images.field-0-is) (c.options_by.result, c.options_by.ensures, c.counted.ensures)

pub returns-in-Some-Export : goal.returns-in-Some-Export
returns-in-Some-Export c = rw (sym c.verb_of.ensures, c.in-Some-Export.is, c.in-Some-Export.field-0-is) c.exported.ensures

pub returns-in-Some-Log : goal.returns-in-Some-Log
returns-in-Some-Log c = rw (sym c.verb_of.ensures, c.in-Some-Log.is, c.in-Some-Log.field-0-is) (c.options.result, c.options.ensures, refl)

pub returns-in-Some-Verify : goal.returns-in-Some-Verify
returns-in-Some-Verify c = rw (sym c.verb_of.ensures, c.in-Some-Verify.is, c.in-Some-Verify.field-0-is) (c.options-in-Some-Verify.result, c.options-in-Some-Verify.ensures, refl)
