use Rattle.shares.proofs.Deques.{begins}
use Rattle.shares.proofs.owned.Deque.new.Goals as goal

pub fifo_as-requires : goal.fifo_as-requires
fifo_as-requires g c = begins _ _ c.requires.some
