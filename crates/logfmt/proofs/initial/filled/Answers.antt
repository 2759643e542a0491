use Rattle.logfmt.proofs.KeptSectors.{filled_sector}
use Rattle.logfmt.proofs.initial.filled.Goals as goal

pub returns : goal.returns
returns c = rw c.copy_from_slice.ensures.after (filled_sector c.args.bytes.now c.requires)
