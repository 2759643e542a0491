use Rattle.retold.specs.Retold.{no_memory}
use Rattle.retold.proofs.command.told_by.Goals as goal

pub returns-in_default-clause-refused : goal.returns-in_default-clause-refused
returns-in_default-clause-refused c = rw c.of_memory.ensures no_memory
