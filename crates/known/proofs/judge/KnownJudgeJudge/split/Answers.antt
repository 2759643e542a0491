use Rattle.std.proofs.Common.{List, ℕ, IfOk, subst}
use Rattle.cases.specs.Cases.{first_split}
use Rattle.cases.specs.AtCut.{parts_of, case_of, IsFound}
use Rattle.known.specs.Records.{told_looks}
use Rattle.known.specs.Leaves.{JudgeValue}
use Rattle.known.proofs.judge.KnownJudgeJudge.split.Goals as goal

pub returns-clause-found : goal.returns-clause-found
returns-clause-found c = λ tears.
    let at = c.args.rows.now in
    subst (λ (j : JudgeValue). IfOk c.first_split.result (λ found. IsFound (parts_of at) found (first_split at.log at.way at.cut (case_of tears (parts_of at) c.args.sets.now) (told_looks j.last)))) c.self.view_is
    (subst (λ (sectors : List ℕ). IfOk c.first_split.result (λ found. IsFound (parts_of at) found (first_split at.log at.way at.cut (case_of tears (parts_of at) c.args.sets.now) sectors))) c.looked.ensures
    (c.first_split.ensures.found tears))
