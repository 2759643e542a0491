use Rattle.inspect.specs.Export.{for_memory}
use Rattle.inspect.proofs.looks.export_command.refusal_of.Goals as goal

pub returns-in-Refused : goal.returns-in-Refused
returns-in-Refused c = rw c.in-Refused.is (λ text s before after stops. stops.0)

pub returns-in-Cut : goal.returns-in-Cut
returns-in-Cut c = rw (c.in-Cut.is, c.of_memory.ensures) (λ text s before after stops. for_memory stops.is.value stops.is.source)
