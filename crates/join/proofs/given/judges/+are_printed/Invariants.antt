use Rattle.std.proofs.Common.{length}
use Rattle.join.proofs.given.judges.+are_printed.Given as goal

abbrev pub decreases-are_printed : goal.decreases-are_printed
decreases-are_printed l = length l.words.now
