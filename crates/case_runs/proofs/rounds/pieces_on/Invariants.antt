use Rattle.std.proofs.Common.{◌≡◌, ◌++◌, length}
use Rattle.std.specs.Vec.Iter.{into_iter_items, into_iter_len}
use Rattle.case_runs.specs.Shares.{AreAnswers, HaveSame}
use Rattle.case_runs.proofs.rounds.pieces_on.Given as goal

abbrev pub invariant-loop-piece : goal.invariant-loop-piece
invariant-loop-piece l = AreAnswers l.work l.places.items
    × HaveSame l.work l.cut l.program (into_iter_items l.initial.piece-iterator) (l.out.items ++ into_iter_items l.piece-iterator)
    × (into_iter_len l.piece-iterator ≡ length (into_iter_items l.piece-iterator))
