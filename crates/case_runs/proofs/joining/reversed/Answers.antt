use Rattle.std.proofs.Common.{Option, IfSome, subst}
use Rattle.std.proofs.lemmas.List.Elements.{All-pop}
use Rattle.case_runs.specs.declared.pieces.Begun.{Begun}
use Rattle.case_runs.specs.Shares.{IsBegun}
use Rattle.case_runs.proofs.Lists.{all_more}
use Rattle.case_runs.proofs.joining.reversed.Goals as goal

pub turning-preserved : goal.turning-preserved
turning-preserved c =
    let is = IsBegun c.args.work.now in
    let popped = All-pop is c.turning.begun.items c.pop.new.self.items c.pop.result c.pop.ensures.items c.turning.invariant.0 in
    let own = subst (λ (one : Option Begun). IfSome one is) c.in-Some.is popped.1 in
    (popped.0, all_more is c.turning.out.items c.push.new.self.items c.in-Some.one c.turning.invariant.1 own c.in_ok-push.ensures.items)
