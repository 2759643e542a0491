use Rattle.std.proofs.Common.{ℕ, ◌≤◌, List, length, sym, subst, ◌∙◌}
use Rattle.std.specs.List.{All}
use Rattle.epochs.proofs.Wanted.{cuts_within}
use Rattle.epochs.proofs.Whole.{whole}
use Rattle.epochs.proofs.plan.Plan.cuts.Goals as goal

pub returns-clause-within : goal.returns-clause-within
returns-clause-within c =
    let plan = whole _ _ _ _ c.self.view_is c.self.invariant in
    let P : List ℕ → Type 0 = λ cuts. All (λ (cut : ℕ). cut ≤ length c.args.self.now.log.entries) cuts in
    subst P (sym (c.as_slice.ensures.value ∙ plan.wanted)) (cuts_within c.args.self.now.kind c.args.self.now.log.entries)
