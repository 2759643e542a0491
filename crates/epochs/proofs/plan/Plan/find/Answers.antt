use Rattle.std.proofs.Common.{◌≡◌, ◌∙◌, refl, ap, arith}
use Rattle.std.proofs.lemmas.Option.{slice_get_within}
use Rattle.epochs.specs.Plan.{PlanValue}
use Rattle.epochs.specs.Parts.{part_size}
use Rattle.epochs.proofs.Search.{entry_read, made_part}
use Rattle.epochs.proofs.Whole.{whole}
use Rattle.epochs.proofs.plan.Plan.find.Goals as goal

pub row-requires : goal.row-requires
row-requires c =
    let at = c.entry_of-entry.ensures in
    let within = slice_get_within c.args.self.now.log.entries c.entry_of-entry.result at.entry at.there in
    omega (arith, within)

pub overflow_cast-count : goal.overflow_cast-count
overflow_cast-count c =
    let plan = whole _ _ _ _ c.self.view_is c.self.invariant in
    let at = c.entry_of-entry.ensures in
    let read = entry_read c.args.self.now.log.entries c.entries.result.now c.entry_of-entry.result c.index-entries-entry.result (slice_get_within c.args.self.now.log.entries c.entry_of-entry.result at.entry at.there)
    (c.entries.ensures.value ∙ ap (λ (v : PlanValue). v.log.entries) c.self.view_is) c.index-entries-entry.is in
    let sized : c.size-count.result ≡ part_size c.args.self.now.by c.index-entries-entry.result =
    c.size-count.ensures ∙ ap (λ (v : PlanValue). part_size v.by c.index-entries-entry.result) c.self.view_is in
    let made = made_part c.args.self.now.by c.args.self.now.log c.args.number c.entry_of-entry.result _ _ c.index-entries-entry.result plan.bounds at read refl sized in
    omega (arith, made.part.device, plan.bounds.device)

pub overflow_cast-first : goal.overflow_cast-first
overflow_cast-first c =
    let plan = whole _ _ _ _ c.self.view_is c.self.invariant in
    let at = c.entry_of-entry.ensures in
    let read = entry_read c.args.self.now.log.entries c.entries.result.now c.entry_of-entry.result c.index-entries-entry.result (slice_get_within c.args.self.now.log.entries c.entry_of-entry.result at.entry at.there)
    (c.entries.ensures.value ∙ ap (λ (v : PlanValue). v.log.entries) c.self.view_is) c.index-entries-entry.is in
    let sized : c.size-count.result ≡ part_size c.args.self.now.by c.index-entries-entry.result =
    c.size-count.ensures ∙ ap (λ (v : PlanValue). part_size v.by c.index-entries-entry.result) c.self.view_is in
    let made = made_part c.args.self.now.by c.args.self.now.log c.args.number c.entry_of-entry.result _ _ c.index-entries-entry.result plan.bounds at read c.row.ensures.row.start sized in
    omega (arith, made.part.device, plan.bounds.device)

pub overflow_add-result : goal.overflow_add-result
overflow_add-result c =
    let plan = whole _ _ _ _ c.self.view_is c.self.invariant in
    let at = c.entry_of-entry.ensures in
    let read = entry_read c.args.self.now.log.entries c.entries.result.now c.entry_of-entry.result c.index-entries-entry.result (slice_get_within c.args.self.now.log.entries c.entry_of-entry.result at.entry at.there)
    (c.entries.ensures.value ∙ ap (λ (v : PlanValue). v.log.entries) c.self.view_is) c.index-entries-entry.is in
    let sized : c.size-count.result ≡ part_size c.args.self.now.by c.index-entries-entry.result =
    c.size-count.ensures ∙ ap (λ (v : PlanValue). part_size v.by c.index-entries-entry.result) c.self.view_is in
    let made = made_part c.args.self.now.by c.args.self.now.log c.args.number c.entry_of-entry.result _ _ c.index-entries-entry.result plan.bounds at read c.row.ensures.row.start sized in
    omega (arith, made.part.device, plan.bounds.device)

pub returns-clause-value : goal.returns-clause-value
returns-clause-value c =
    let plan = whole _ _ _ _ c.self.view_is c.self.invariant in
    let at = c.entry_of-entry.ensures in
    let read = entry_read c.args.self.now.log.entries c.entries.result.now c.entry_of-entry.result c.index-entries-entry.result (slice_get_within c.args.self.now.log.entries c.entry_of-entry.result at.entry at.there)
    (c.entries.ensures.value ∙ ap (λ (v : PlanValue). v.log.entries) c.self.view_is) c.index-entries-entry.is in
    let sized : c.size-count.result ≡ part_size c.args.self.now.by c.index-entries-entry.result =
    c.size-count.ensures ∙ ap (λ (v : PlanValue). part_size v.by c.index-entries-entry.result) c.self.view_is in
    (made_part c.args.self.now.by c.args.self.now.log c.args.number c.entry_of-entry.result _ _ c.index-entries-entry.result plan.bounds at read c.row.ensures.row.start sized).there

pub returns-clause-part : goal.returns-clause-part
returns-clause-part c =
    let plan = whole _ _ _ _ c.self.view_is c.self.invariant in
    let at = c.entry_of-entry.ensures in
    let read = entry_read c.args.self.now.log.entries c.entries.result.now c.entry_of-entry.result c.index-entries-entry.result (slice_get_within c.args.self.now.log.entries c.entry_of-entry.result at.entry at.there)
    (c.entries.ensures.value ∙ ap (λ (v : PlanValue). v.log.entries) c.self.view_is) c.index-entries-entry.is in
    let sized : c.size-count.result ≡ part_size c.args.self.now.by c.index-entries-entry.result =
    c.size-count.ensures ∙ ap (λ (v : PlanValue). part_size v.by c.index-entries-entry.result) c.self.view_is in
    (made_part c.args.self.now.by c.args.self.now.log c.args.number c.entry_of-entry.result _ _ c.index-entries-entry.result plan.bounds at read c.row.ensures.row.start sized).part
