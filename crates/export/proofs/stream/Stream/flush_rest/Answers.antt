use Rattle.export.proofs.Streaming.{puts_nothing}
use Rattle.export.proofs.stream.Stream.flush_rest.Goals as goal

pub returns-then-is_empty-clause-puts : goal.returns-then-is_empty-clause-puts
returns-then-is_empty-clause-puts g c = puts_nothing _ _ _
