use Rattle.export.proofs.Streaming.{waits, is_given_up}
use Rattle.export.proofs.stream.Stream.keep.Goals as goal

pub returns-in-Ok : goal.returns-in-Ok
returns-in-Ok g c = waits _ _ _ _ _ c.requires.going c.in-Ok.ensures.items

pub returns-in-Err : goal.returns-in-Err
returns-in-Err g c = is_given_up g.W.Write.contents c.args.self.now.output.writer c.close.new.self.writer _ _ _ _ _ c.requires.going c.close.ensures.closed c.close.ensures.writer c.requires.some
