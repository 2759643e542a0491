use Rattle.std.proofs.Common.{length}
use Rattle.join.proofs.heading.+are_programs_of_run.Given as goal

abbrev pub decreases-are_programs_of_run : goal.decreases-are_programs_of_run
decreases-are_programs_of_run l = length l.programs.now
