use Rattle.std.proofs.Common.{◌∷◌, ◌++◌, OnOk, sym, subst}
use Rattle.case_runs.specs.declared.pieces.Subtree.{Subtree}
use Rattle.case_runs.specs.Shares.{HaveSame}
use Rattle.case_runs.proofs.Turning.{same_told}
use Rattle.case_runs.proofs.rounds.put_piece.Goals as goal

pub returns-in_ok-push-in-Told-clause-same : goal.returns-in_ok-push-in-Told-clause-same
returns-in_ok-push-in-Told-clause-same c = λ rest.
    subst (λ (it : Subtree). HaveSame c.args.work.now c.args.cut c.args.program (c.args.out.now.items ++ (it ∷ rest)) (c.push.new.self.items ++ rest)) (sym c.in-Told.is)
    (same_told c.args.work.now c.args.cut c.args.program c.args.out.now.items c.push.new.self.items c.in-Told.found c.in_ok-push-in-Told.ensures.items rest)

pub returns-in-Open-clause-same : goal.returns-in-Open-clause-same
returns-in-Open-clause-same c = λ rest.
    subst (λ (it : Subtree). OnOk c.put_below.result (HaveSame c.args.work.now c.args.cut c.args.program (c.args.out.now.items ++ (it ∷ rest)) (c.put_below.new.out.items ++ rest))) (sym c.in-Open.is) (c.put_below.ensures.same rest)
