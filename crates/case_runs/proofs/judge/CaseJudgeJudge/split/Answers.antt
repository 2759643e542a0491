use Rattle.std.proofs.Common.{IfOk, subst}
use Rattle.case_runs.specs.Leaves.{JudgeValue}
use Rattle.case_runs.specs.Judges.{IsSplitAt}
use Rattle.case_runs.proofs.judge.CaseJudgeJudge.split.Goals as goal

pub returns-clause-found : goal.returns-clause-found
returns-clause-found c = λ tears.
    subst (λ (j : JudgeValue). IfOk c.split_looked.result (λ found. IsSplitAt c.args.rows.now tears c.args.sets.now found j.looked)) c.self.view_is (c.split_looked.ensures.found tears)
