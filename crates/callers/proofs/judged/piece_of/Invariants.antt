use Rattle.callers.proofs.judged.piece_of.Given as goal

abbrev pub ghosts-first_of_run : goal.ghosts-first_of_run
ghosts-first_of_run g a = record { plan = a.history.now; checkers = a.checkers.now; size = 16 }
