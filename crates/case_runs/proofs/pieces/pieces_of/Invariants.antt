use Rattle.std.proofs.Common.{◌≡◌, ◌++◌, length, map}
use Rattle.std.specs.Vec.Iter.{into_iter_items, into_iter_len}
use Rattle.case_runs.specs.Pieces.{open_at}
use Rattle.case_runs.proofs.pieces.pieces_of.Given as goal

abbrev pub invariant-loop-sets : goal.invariant-loop-sets
invariant-loop-sets l = (l.yielded ++ into_iter_items l.sets-iterator ≡ into_iter_items l.initial.sets-iterator)
    × (l.pieces.items ≡ l.initial.pieces.items ++ map open_at l.yielded)
    × (into_iter_len l.sets-iterator ≡ length (into_iter_items l.sets-iterator))
