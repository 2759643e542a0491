use Rattle.std.proofs.Common.{ℕ, ◌≡◌, ◌+◌, ◌-◌, ◌++◌, List, sym, ◌∙◌, ap, arith, append_assoc}
use Rattle.std.proofs.lemmas.Result.{on_ok_weaker}
use Rattle.epochs.specs.declared.part.By.{By}
use Rattle.epochs.specs.Plan.{PlanValue}
use Rattle.epochs.specs.Touching.{touching_parts, touching_before}
use Rattle.epochs.proofs.Search.{entry_read, unforced_parts-rise}
use Rattle.epochs.proofs.Touching.{count_fits, entry_fits, touching_next}
use Rattle.epochs.proofs.Whole.{whole}
use Rattle.epochs.proofs.plan.Plan.put_touching_of.Goals as goal

pub overflow_add-entry : goal.overflow_add-entry
overflow_add-entry c =
    let plan = whole _ _ _ _ c.self.view_is c.self.invariant in
    omega (arith, c.requires.entry, plan.bounds.count)

pub overflow_sub-count : goal.overflow_sub-count
overflow_sub-count c =
    let es = c.args.self.now.log.entries in
    let rise = unforced_parts-rise c.args.self.now.by es c.args.entry (c.args.entry + 1) (omega arith) (omega (arith, c.requires.entry)) in
    omega (arith, rise, c.row-start.ensures.row.start, c.row.ensures.row.start)

pub put_touching-requires-clause-count : goal.put_touching-requires-clause-count
put_touching-requires-clause-count c =
    let read = entry_read c.args.self.now.log.entries c.entries.result.now c.args.entry c.index-entries-entry.result c.requires.entry
    (c.entries.ensures.value ∙ ap (λ (v : PlanValue). v.log.entries) c.self.view_is) c.index-entries-entry.is in
    count_fits c.args.self.now.by _ c.args.self.now.log.entries c.args.entry _ _ _ (ap (λ (v : PlanValue). v.by) c.self.view_is) read
    c.row-start.ensures.row.start c.row.ensures.row.start

pub put_touching-requires-clause-fits : goal.put_touching-requires-clause-fits
put_touching-requires-clause-fits c =
    let plan = whole _ _ _ _ c.self.view_is c.self.invariant in
    let read = entry_read c.args.self.now.log.entries c.entries.result.now c.args.entry c.index-entries-entry.result c.requires.entry
    (c.entries.ensures.value ∙ ap (λ (v : PlanValue). v.log.entries) c.self.view_is) c.index-entries-entry.is in
    entry_fits c.args.self.now.log c.args.entry _ plan.bounds read

pub returns-clause-put : goal.returns-clause-put
returns-clause-put c = λ front is.
    let way : By = c.args.self.now.by in
    let es = c.args.self.now.log.entries in
    let sectors = c.args.sectors.now in
    let d : ℕ = c.args.durable in
    let e : ℕ = c.args.entry in
    let x = c.index-entries-entry.result in
    let own : c.self.inside.by ≡ way = ap (λ (v : PlanValue). v.by) c.self.view_is in
    let read = entry_read es c.entries.result.now e x c.requires.entry
    (c.entries.ensures.value ∙ ap (λ (v : PlanValue). v.log.entries) c.self.view_is) c.index-entries-entry.is in
    let start : ℕ = c.row-start.result.start - d in
    let count : ℕ = c.row.result.start - c.row-start.result.start in
    let low = c.requires.durable in
    let at = c.row-start.ensures.row.start in
    let after = c.row.ensures.row.start in
    let next = touching_next way es sectors d e x start count read low (omega (arith, at)) (omega (arith, at, after)) in
    on_ok_weaker c.put_touching.result
    (λ put. put ∙ ap (λ w. c.args.parts.now.items ++ touching_parts w e x sectors start count) own
    ∙ ap (λ (ns : List ℕ). ns ++ touching_parts way e x sectors start count) is
    ∙ append_assoc front (touching_before way es sectors d e) (touching_parts way e x sectors start count)
    ∙ ap (λ (ns : List ℕ). front ++ ns) (sym next))
    (c.put_touching.ensures.put e)
