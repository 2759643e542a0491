use Rattle.inspect.proofs.Texts.{import_refused}
use Rattle.inspect.proofs.looks.import_command.import.Goals as goal

pub returns-in-Err-clause-refused : goal.returns-in-Err-clause-refused
returns-in-Err-clause-refused c = rw c.log_refusal_of.ensures (import_refused _ _ _ c.in-Err.fault c.sectors.ensures.value c.in-Err.ensures.fault)
