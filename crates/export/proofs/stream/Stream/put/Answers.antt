use Rattle.export.proofs.Streaming.{puts_none, puts_and_writes}
use Rattle.export.proofs.stream.Stream.put.Goals as goal

pub returns-then-is_empty : goal.returns-then-is_empty
returns-then-is_empty g c = puts_none _ _ _ c.args.bytes.now c.if-is_empty.ensures

pub returns : goal.returns
returns g c = puts_and_writes _ _ _ c.args.bytes.now c.keep.ensures c.pass_on.ensures
