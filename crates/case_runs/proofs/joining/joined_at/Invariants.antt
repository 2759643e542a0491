use Rattle.std.proofs.Common.{◌≡◌, ◌≤◌, length}
use Rattle.std.specs.Vec.Iter.{into_iter_items, into_iter_len}
use Rattle.case_runs.specs.Shares.{cut_in}
use Rattle.case_runs.proofs.Joined.{ComesTo}
use Rattle.case_runs.proofs.joining.joined_at.Given as goal

abbrev pub invariant-loop-piece : goal.invariant-loop-piece
invariant-loop-piece g l = ComesTo l.work.asked (cut_in l.work l.number) l.checker l.found (into_iter_items l.piece-iterator)
    × (l.found.cases ≤ l.left)
    × (into_iter_len l.piece-iterator ≡ length (into_iter_items l.piece-iterator))
