use Rattle.std.proofs.Common.{◌∙◌, ap, sym}
use Rattle.epochs.specs.Plan.{PlanValue}
use Rattle.retold.proofs.page.numbering_of.Goals as goal

pub invariant_of-result : goal.invariant_of-result
invariant_of-result c =
    let plan = c.plan.ensures in
    record {
      log_is = ap (λ (p : PlanValue). p.log) plan ∙ c.args.subject.now.log_is;
      kind_is = ap (λ (p : PlanValue). p.kind) plan ∙ c.requires;
      by_is = ap (λ (p : PlanValue). p.by) plan ∙ sym c.args.subject.now.by_is;
    }
