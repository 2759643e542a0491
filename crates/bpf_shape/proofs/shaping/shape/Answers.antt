use Rattle.std.proofs.Common.{inl, inr, Some, None}
use Rattle.std.proofs.lemmas.Result.{err_from_is_err_and}
use Rattle.bpf_shape.specs.Lengths.{HasBudget}
use Rattle.bpf_shape.proofs.Kept.{plain_fits, control_fits, entries_fit, first_loop, first_calls, first_budget}
use Rattle.bpf_shape.proofs.Budgets.{shaped}
use Rattle.bpf_shape.proofs.shaping.shape.Goals as goal

pub keep_paths-requires-clause-plain : goal.keep_paths-requires-clause-plain
keep_paths-requires-clause-plain c = plain_fits c.args.guards c.args.program.now c.in_ok-keep_all.ensures.kept

pub keep_paths-requires-clause-edges : goal.keep_paths-requires-clause-edges
keep_paths-requires-clause-edges c = control_fits c.args.guards c.args.program.now c.in_ok-keep_all.ensures.kept

pub keep_paths-requires-clause-entries : goal.keep_paths-requires-clause-entries
keep_paths-requires-clause-entries c = entries_fit c.args.guards c.args.program.now c.in_ok-keep_all.ensures.kept.targets

pub budget-requires-clause-edges : goal.budget-requires-clause-edges
budget-requires-clause-edges c = control_fits c.args.guards c.args.program.now c.in_ok-keep_all.ensures.kept

pub budget-requires-clause-entries : goal.budget-requires-clause-entries
budget-requires-clause-entries c = entries_fit c.args.guards c.args.program.now c.in_ok-keep_all.ensures.kept.targets

pub returns-in_err-keep_paths-clause-refused : goal.returns-in_err-keep_paths-clause-refused
returns-in_err-keep_paths-clause-refused c =
    let p = err_from_is_err_and c.from_residual-in_err-keep_paths.result c.from_residual-in_err-keep_paths.ensures.1 in
    rw (p.1, p.2)
    (elim c.in_err-keep_paths.ensures.refused [
      | inl memory ↦ inl memory
      | inr (inl broken) ↦ inr (first_loop c.args.guards c.args.program.now _ c.in_ok-keep_all.ensures.kept broken)
      | inr (inr (loops, broken)) ↦ inr (first_calls c.args.guards c.args.program.now _ c.in_ok-keep_all.ensures.kept loops broken)
    ])

pub returns-in_ok-heads-in-Some-clause-shape : goal.returns-in_ok-heads-in-Some-clause-shape
returns-in_ok-heads-in-Some-clause-shape c =
    let program = c.args.program.now in
    let found : HasBudget program (Some c.in-Some.budget) = rw c.in-Some.is at c.in_ok-budget.ensures in
    rw c.new.ensures
    (shaped c.args.guards program c.in-Some.budget c.in_ok-heads-in-Some.heads.items c.in_ok-keep_all.ensures.kept c.in_ok-keep_paths.ensures.loops c.in_ok-keep_paths.ensures.calls
    found c.in_ok-heads-in-Some.ensures)

pub returns-in-None-clause-refused : goal.returns-in-None-clause-refused
returns-in-None-clause-refused c =
    let program = c.args.program.now in
    let over : HasBudget program None = rw c.in-None.is at c.in_ok-budget.ensures in
    rw c.at.ensures
    (inr (first_budget c.args.guards program c.in_ok-keep_all.ensures.kept c.in_ok-keep_paths.ensures.loops c.in_ok-keep_paths.ensures.calls over))
