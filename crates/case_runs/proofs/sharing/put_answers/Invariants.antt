use Rattle.std.proofs.Common.{◌≡◌, All, IfOk, length}
use Rattle.std.specs.Vec.Iter.{into_iter_items, into_iter_len}
use Rattle.case_runs.specs.Shares.{IsAnswer, AreAnswers}
use Rattle.case_runs.proofs.sharing.put_answers.Given as goal

abbrev pub invariant-loop-one : goal.invariant-loop-one
invariant-loop-one l = AreAnswers l.work l.places.items
    × All (λ one. IfOk one (λ answers. All (IsAnswer l.work) answers.items)) (into_iter_items l.one-iterator)
    × (into_iter_len l.one-iterator ≡ length (into_iter_items l.one-iterator))
