use Rattle.std.proofs.Common.{refl, arith}
use Rattle.std.proofs.lemmas.Option.{slice_get_read}
use Rattle.epochs.specs.Table.{IsRow}
use Rattle.epochs.proofs.Rows.{row_fits}
use Rattle.epochs.proofs.Whole.{whole}
use Rattle.epochs.proofs.plan.Plan.row.Goals as goal

pub returns-clause-row : goal.returns-clause-row
returns-clause-row c =
    let plan = whole _ _ _ _ c.self.view_is c.self.invariant in
    plan.table.each c.args.cut c.index.result.now
    (slice_get_read c.self.inside.rows.items _ c.args.cut c.index.result.now refl (omega (arith, plan.table.count, c.requires)) c.index.ensures)

pub returns-clause-fits : goal.returns-clause-fits
returns-clause-fits c =
    let plan = whole _ _ _ _ c.self.view_is c.self.invariant in
    let row : IsRow c.args.self.now.by c.args.self.now.log.entries c.args.cut c.index.result.now = returns-clause-row c in
    row_fits _ _ _ _ row plan.bounds.count plan.bounds.units c.requires
