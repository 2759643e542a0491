use Rattle.std.proofs.Common.{length}
use Rattle.join.proofs.ending.+names_rise.Given as goal

abbrev pub decreases-names_rise : goal.decreases-names_rise
decreases-names_rise l = length l.names.now
