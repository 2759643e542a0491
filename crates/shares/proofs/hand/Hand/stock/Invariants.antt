use Rattle.std.proofs.Common.{◌≡◌, ◌≤◌, length}
use Rattle.shares.specs.declared.deque.Phase.TheVariants.{Open}
use Rattle.shares.specs.Hands.{IsStocked}
use Rattle.shares.proofs.hand.Hand.stock.Given as goal

abbrev pub invariant-loop-more : goal.invariant-loop-more
invariant-loop-more g l = (l.seat.board ≡ l.board.name) × (length l.self.list ≤ l.more) × (l.self.place ≡ l.initial.self.place) × (l.self.phase ≡ Open) × IsStocked l.more l.initial.self l.initial.seat l.self l.seat
