use Rattle.std.proofs.Common.{length}
use Rattle.request.proofs.source.+entry_past.Given as goal

abbrev pub decreases-entry_past : goal.decreases-entry_past
decreases-entry_past l = length l.entries.now
