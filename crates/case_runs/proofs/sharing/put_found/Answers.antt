use Rattle.std.proofs.Common.{◌≡◌, ◌∷◌, length, ap, arith}
use Rattle.std.specs.Vec.Iter.{into_iter_items}
use Rattle.std.proofs.lemmas.List.Elements.{All-rest}
use Rattle.case_runs.specs.Shares.{IsAnswer}
use Rattle.case_runs.proofs.sharing.put_found.Goals as goal

pub loop-answer-preserved : goal.loop-answer-preserved
loop-answer-preserved c =
    let at = c.loop-answer in
    let x = c.in-Some.answer in
    let steps : into_iter_items at.answer-iterator ≡ x ∷ into_iter_items c.next.new.self = c.in-Some.ensures.steps.0 in (
      c.put_answer.ensures,
      All-rest (IsAnswer c.args.work.now) x (into_iter_items c.next.new.self) (into_iter_items at.answer-iterator) steps at.invariant.1,
      let was = at.invariant.2 in
          let gone = c.in-Some.ensures.steps.1 in
          let short = ap length steps in
          omega arith,
    )
