use Rattle.workers.proofs.exploring.explore_all.Given as goal

abbrev pub ghosts-explore_by : goal.ghosts-explore_by
ghosts-explore_by g a = record { plan = a.input.now.plan; checkers = a.input.now.checkers; size = a.cache }
