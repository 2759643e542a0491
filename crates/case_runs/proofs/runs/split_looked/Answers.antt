use Rattle.std.proofs.Common.{ℕ, List, IfOk, subst, ◌∙◌}
use Rattle.std.specs.List.{range_with_len}
use Rattle.cases.specs.AtCut.{CutValue}
use Rattle.case_runs.specs.Judges.{IsSplitAt}
use Rattle.case_runs.proofs.Running.{looked_all, looked_kept}
use Rattle.case_runs.proofs.runs.split_looked.Goals as goal

pub returns-then-looked-clause-found : goal.returns-then-looked-clause-found
returns-then-looked-clause-found c = λ tears.
    subst (λ (ns : List ℕ). IsSplitAt c.args.rows.now tears c.args.sets.now c.split_anywhere.result ns) (looked_all c.args.count c.args.looked.now c.if-looked.true)
    (subst (λ (at : CutValue). IsSplitAt at tears c.args.sets.now c.split_anywhere.result (range_with_len 0 c.args.count)) c.cut.ensures.value (c.split_anywhere.ensures tears))

pub returns-else-looked-clause-found : goal.returns-else-looked-clause-found
returns-else-looked-clause-found c = λ tears.
    subst (λ (ns : List ℕ). IfOk c.first_split.result (λ found. IsSplitAt c.args.rows.now tears c.args.sets.now found ns))
    (c.as_slice.ensures.value ∙ looked_kept c.args.count c.args.looked.now c.if-looked.false) (c.first_split.ensures.found tears)
