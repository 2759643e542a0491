use Rattle.known_runs.specs.Told.{no_memory}
use Rattle.known_runs.proofs.command.wanted_of.Goals as goal

pub returns-clause-refused : goal.returns-clause-refused
returns-clause-refused c = rw c.memory.ensures no_memory
