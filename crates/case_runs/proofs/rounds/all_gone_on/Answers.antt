use Rattle.std.proofs.Common.{◌≡◌, ◌∷◌, length, ap, arith}
use Rattle.std.specs.Vec.Iter.{into_iter_items}
use Rattle.std.proofs.lemmas.List.Elements.{All-rest}
use Rattle.case_runs.specs.Shares.{IsBegun}
use Rattle.case_runs.proofs.Lists.{all_more}
use Rattle.case_runs.proofs.rounds.all_gone_on.Goals as goal

pub loop-one-preserved : goal.loop-one-preserved
loop-one-preserved c =
    let at = c.loop-one in
    let x = c.in-Some.one in
    let steps : into_iter_items at.one-iterator ≡ x ∷ into_iter_items c.next.new.self = c.in-Some.ensures.steps.0 in (
      c.gone_on.ensures.places,
      all_more (IsBegun c.args.work.now) at.out.items c.push.new.self.items c.in_ok-gone.gone at.invariant.1 c.in_ok-gone.ensures.begun c.in_ok-push.ensures.items,
      All-rest (IsBegun c.args.work.now) x (into_iter_items c.next.new.self) (into_iter_items at.one-iterator) steps at.invariant.2,
      let was = at.invariant.3 in
          let gone = c.in-Some.ensures.steps.1 in
          let short = ap length steps in
          omega arith,
    )
