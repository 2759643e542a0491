use Rattle.commands.proofs.CaseLaidOut.{laid_out_ranges_are_parts}
use Rattle.commands.proofs.laws.laid_out_ranges_are_parts.Goals as goal

pub returns : goal.returns
returns c = laid_out_ranges_are_parts c.cut_parts_are_run.ensures
