use Rattle.std.proofs.Common.{List, refl, sym, subst}
use Rattle.std.specs.List.Sorted.{IsNonDecreasingBy}
use Rattle.epochs.specs.declared.table.CutRow.{CutRow}
use Rattle.epochs.proofs.Search.{Splits, rows_rise, some_row, found}
use Rattle.epochs.proofs.Whole.{whole}
use Rattle.epochs.proofs.plan.Plan.entry_of.Goals as goal

pub rows_up_to-requires : goal.rows_up_to-requires
rows_up_to-requires c =
    let plan = whole _ _ _ _ c.self.view_is c.self.invariant in
    let P : List CutRow → Type 0 = λ rows. IsNonDecreasingBy (λ (row : CutRow). row.start) rows in
    subst P (sym c.as_slice.ensures.value) (rows_rise _ _ _ plan.table)

pub overflow_sub-result : goal.overflow_sub-result
overflow_sub-result c =
    let plan = whole _ _ _ _ c.self.view_is c.self.invariant in
    let P : List CutRow → Type 0 = λ rows. Splits rows c.args.number c.rows_up_to.result in
    let told : Splits c.as_slice.result.now c.args.number c.rows_up_to.result =
    record { bound = c.rows_up_to.ensures.bound; before = c.rows_up_to.ensures.before; beyond = c.rows_up_to.ensures.beyond } in
    (some_row _ _ _ _ _ plan.table c.requires (subst P c.as_slice.ensures.value told)).0

pub returns : goal.returns
returns c =
    let plan = whole _ _ _ _ c.self.view_is c.self.invariant in
    let P : List CutRow → Type 0 = λ rows. Splits rows c.args.number c.rows_up_to.result in
    let told : Splits c.as_slice.result.now c.args.number c.rows_up_to.result =
    record { bound = c.rows_up_to.ensures.bound; before = c.rows_up_to.ensures.before; beyond = c.rows_up_to.ensures.beyond } in
    found _ _ _ _ _ _ plan.table c.requires (subst P c.as_slice.ensures.value told) refl
