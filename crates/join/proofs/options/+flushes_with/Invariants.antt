use Rattle.join.proofs.options.+flushes_with.Given as goal

abbrev pub decreases-flushes_with : goal.decreases-flushes_with
decreases-flushes_with l = l.left
