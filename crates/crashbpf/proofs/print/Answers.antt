use Rattle.crashbpf.proofs.Said.{takes_text}
use Rattle.crashbpf.proofs.print.Goals as goal

pub returns-clause-said : goal.returns-clause-said
returns-clause-said g c = takes_text _ _ _ _ _ _ c.as_bytes.ensures.value c.emit.ensures.written c.emit.ensures.part c.emit.ensures.failed
