use Rattle.std.proofs.Common.{◌∙◌, ap, sym}
use Rattle.epochs.specs.Plan.{PlanValue}
use Rattle.runs.proofs.paging.numbering_of.Goals as goal

pub invariant_of-result : goal.invariant_of-result
invariant_of-result c =
    let plan = c.args.task.now.plan_is in
    record {
      log_is = ap (λ (p : PlanValue). p.log) plan;
      kind_is = ap (λ (p : PlanValue). p.kind) plan ∙ sym c.cuts.ensures;
      by_is = ap (λ (p : PlanValue). p.by) plan ∙ sym c.by.ensures;
    }
