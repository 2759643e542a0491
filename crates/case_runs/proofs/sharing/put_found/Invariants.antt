use Rattle.std.proofs.Common.{◌≡◌, All, length}
use Rattle.std.specs.Vec.Iter.{into_iter_items, into_iter_len}
use Rattle.case_runs.specs.Shares.{IsAnswer, AreAnswers}
use Rattle.case_runs.proofs.sharing.put_found.Given as goal

abbrev pub invariant-loop-answer : goal.invariant-loop-answer
invariant-loop-answer l = AreAnswers l.work l.places.items
    × All (IsAnswer l.work) (into_iter_items l.answer-iterator)
    × (into_iter_len l.answer-iterator ≡ length (into_iter_items l.answer-iterator))
