use Rattle.std.proofs.Common.{arith}
use Rattle.shares.proofs.Ends.{begins}
use Rattle.shares.proofs.board.Board.new.Goals as goal

pub of_words-requires : goal.of_words-requires
of_words-requires c = begins _ (omega arith)
