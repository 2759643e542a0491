use Rattle.export.proofs.Streaming.{all_written, part_written}
use Rattle.export.proofs.stream.Stream.flush.Goals as goal

pub returns-in-Ok-clause-puts : goal.returns-in-Ok-clause-puts
returns-in-Ok-clause-puts g c = all_written _ _ _ _ _ _ _ c.requires.going c.in-Ok.ensures.going c.as_slice.ensures.value c.in-Ok.ensures.written c.clear.ensures.items

pub returns-in-Err-clause-puts : goal.returns-in-Err-clause-puts
returns-in-Err-clause-puts g c = part_written _ _ _ _ _ _ _ c.in-Err._written c.requires.going c.in-Err.ensures.failed c.as_slice.ensures.value c.in-Err.ensures.part
