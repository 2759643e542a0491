use Rattle.std.proofs.Common.{IfOk, subst}
use Rattle.cases.specs.Cases.{first_split}
use Rattle.cases.specs.AtCut.{parts_of, case_of, IsFound}
use Rattle.case_runs.specs.Leaves.{JudgeValue}
use Rattle.case_runs.proofs.gate.WatchedJudge.split.Goals as goal

pub returns-clause-found : goal.returns-clause-found
returns-clause-found g c =
    λ tears.
    subst
    (λ (j : JudgeValue). IfOk c.split.result (λ found. IsFound (parts_of c.args.rows.now) found
    (first_split c.args.rows.now.log c.args.rows.now.way c.args.rows.now.cut (case_of tears (parts_of c.args.rows.now) c.args.sets.now) j.looked)))
    c.self.view_is (c.split.ensures.found tears)
