use Rattle.interp.proofs.Reached.{known_at}
use Rattle.std.proofs.Common.{slice_get}
use Rattle.interp.proofs.frames.Frames.known.Goals as goal

pub returns-clause-known : goal.returns-clause-known
returns-clause-known c = known_at (slice_get c.args.self.now c.args.number) c.stack.result.now c.known.result c.stack.ensures c.known.ensures.known
