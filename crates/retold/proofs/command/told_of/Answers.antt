use Rattle.retold.specs.Retold.{no_memory}
use Rattle.retold.proofs.command.told_of.Goals as goal

pub returns-in-Ok-clause-refused : goal.returns-in-Ok-clause-refused
returns-in-Ok-clause-refused c = rw c.of_memory.ensures no_memory
