use Rattle.std.proofs.Common.{◌≡◌, All, length}
use Rattle.std.specs.Vec.Iter.{into_iter_items, into_iter_len}
use Rattle.case_runs.specs.Shares.{AreAnswers, IsBegun}
use Rattle.case_runs.proofs.rounds.all_gone_on.Given as goal

abbrev pub invariant-loop-one : goal.invariant-loop-one
invariant-loop-one l = AreAnswers l.work l.places.items
    × All (IsBegun l.work) l.out.items
    × All (IsBegun l.work) (into_iter_items l.one-iterator)
    × (into_iter_len l.one-iterator ≡ length (into_iter_items l.one-iterator))
