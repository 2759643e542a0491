use Rattle.std.proofs.Common.{length}
use Rattle.join.proofs.ending.+each_of_run.Given as goal

abbrev pub decreases-each_of_run : goal.decreases-each_of_run
decreases-each_of_run l = length l.names.now
