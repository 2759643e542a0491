use Rattle.inspect.specs.Assembly.{no_characters, no_bytes_memory}
use Rattle.inspect.proofs.Texts.{text_refused}
use Rattle.inspect.proofs.looks.asm_command.assemble.Goals as goal

pub returns-in-Err-clause-refused : goal.returns-in-Err-clause-refused
returns-in-Err-clause-refused c = rw c.unreadable.ensures (no_characters c.in-Err.ensures.cases.0)

pub returns-in-Err-assemble-clause-refused : goal.returns-in-Err-assemble-clause-refused
returns-in-Err-assemble-clause-refused c =
    rw c.text_refusal_of.ensures (text_refused _ _ c.in-Err-assemble.fault c.in-Ok.ensures.cases.0 c.in-Ok.ensures.cases.1 c.in-Err-assemble.ensures.fault)

pub returns-clause-refused : goal.returns-clause-refused
returns-clause-refused c = rw c.of_memory.ensures no_bytes_memory
