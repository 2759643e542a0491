use Rattle.workers.specs.Pieces.{block_count}
use Rattle.workers.proofs.exploring.all_pieces.Given as goal

abbrev pub ghosts-crew_back : goal.ghosts-crew_back
ghosts-crew_back g a = record { blocks = block_count a.input.now; workers = a.crew }
