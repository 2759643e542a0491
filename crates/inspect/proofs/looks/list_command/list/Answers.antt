use Rattle.inspect.specs.Assembly.{no_listing_memory}
use Rattle.inspect.proofs.Texts.{bytes_refused}
use Rattle.inspect.proofs.looks.list_command.list.Goals as goal

pub returns-in-Err-clause-refused : goal.returns-in-Err-clause-refused
returns-in-Err-clause-refused c = rw c.bytes_refusal_of.ensures (bytes_refused _ c.in-Err.fault c.in-Err.ensures.fault)

pub returns-clause-refused : goal.returns-clause-refused
returns-clause-refused c = rw c.of_memory.ensures no_listing_memory
