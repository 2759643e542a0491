use Rattle.std.proofs.Common.{length}
use Rattle.join.proofs.heading.+are_entries_of_run.Given as goal

abbrev pub decreases-are_entries_of_run : goal.decreases-are_entries_of_run
decreases-are_entries_of_run l = length l.entries.now
