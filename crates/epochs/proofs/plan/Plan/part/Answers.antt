use Rattle.std.proofs.Common.{sym, ◌∙◌, arith, length}
use Rattle.epochs.proofs.Search.{inside_run, inside_all, unforced_parts-keep, volatile_by_row, before_cut}
use Rattle.epochs.proofs.plan.Plan.part.Goals as goal

pub find-requires : goal.find-requires
find-requires c = inside_all _ _ _ _ _ c.row.ensures.row c.requires.number c.requires.cut

pub returns-clause-value : goal.returns-clause-value
returns-clause-value c =
    let es = c.args.self.now.log.entries in
    let lt = inside_run _ _ _ _ _ c.row.ensures.row c.requires.number in
    volatile_by_row _ es c.args.cut c.row.result c.args.number c.row.ensures.row
    ∙ sym (unforced_parts-keep _ es c.args.cut (length es) _ c.requires.cut (omega arith) lt) ∙ c.find.ensures.value

pub returns-clause-before : goal.returns-clause-before
returns-clause-before c =
    let lt = inside_run _ _ _ _ _ c.row.ensures.row c.requires.number in
    let part = c.find.ensures.part in
    before_cut _ c.args.self.now.log.entries c.args.cut c.find.result.entry _ part.entry part.there c.find.ensures.entry lt c.requires.cut
