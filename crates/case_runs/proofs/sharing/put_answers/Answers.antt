use Rattle.std.proofs.Common.{◌≡◌, ◌∷◌, length, ap, arith}
use Rattle.std.specs.Vec.Iter.{into_iter_items}
use Rattle.std.proofs.lemmas.List.Elements.{All-rest, All-same}
use Rattle.case_runs.proofs.Answering.{AreFoundSo, none_answered, found_next}
use Rattle.case_runs.proofs.sharing.put_answers.Goals as goal

pub loop-one-init : goal.loop-one-init
loop-one-init c =
    let gives = c.into_iter-one-iterator.ensures.into_iter_gives in (
      none_answered c.args.work.now c.in_ok-places.places.items c.in_ok-places.ensures,
      All-same (AreFoundSo c.args.work.now) (into_iter_items c.into_iter-one-iterator.result) c.args.all.items gives.0 c.requires,
      let many = gives.1 in
          let ok = c.args.all.ok in
          let same = ap length gives.0 in
          omega (arith, many, ok, same),
    )

pub put_found-requires-clause-found : goal.put_found-requires-clause-found
put_found-requires-clause-found c =
    let at = c.loop-one in
    found_next c.args.work.now c.in-Some.one (into_iter_items c.next.new.self) (into_iter_items at.one-iterator) c.in-Some.ensures.steps.0 at.invariant.1

pub loop-one-preserved : goal.loop-one-preserved
loop-one-preserved c =
    let at = c.loop-one in
    let x = c.in-Some.one in
    let steps : into_iter_items at.one-iterator ≡ x ∷ into_iter_items c.next.new.self = c.in-Some.ensures.steps.0 in (
      c.put_found.ensures,
      All-rest (AreFoundSo c.args.work.now) x (into_iter_items c.next.new.self) (into_iter_items at.one-iterator) steps at.invariant.1,
      let was = at.invariant.2 in
          let gone = c.in-Some.ensures.steps.1 in
          let short = ap length steps in
          omega arith,
    )
