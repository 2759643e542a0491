use Rattle.export.proofs.Streaming.{puts_nothing}
use Rattle.export.proofs.stream.Stream.pass_on.Goals as goal

pub returns-then-len-lt-PIECE : goal.returns-then-len-lt-PIECE
returns-then-len-lt-PIECE g c = puts_nothing _ _ _
