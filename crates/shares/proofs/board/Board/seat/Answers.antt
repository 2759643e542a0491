use Rattle.std.proofs.Common.{◌∙◌, sym, ap, arith}
use Rattle.shares.proofs.Ends.{gives}
use Rattle.shares.proofs.board.Board.seat.Goals as goal

pub split_seat-token-requires : goal.split_seat-token-requires
split_seat-token-requires c =
    (c.requires.table ∙ sym (ap (λ d. d.name.table) c.self.view_is), omega (arith, c.self.invariant), gives _ _ _ c.requires.part.1 c.requires.part.0)
