use Rattle.std.proofs.Common.{List, length, sym, subst, ◌∙◌, ap, arith}
use Rattle.std.specs.List.Sorted.{IsNonDecreasingBy}
use Rattle.logfmt.specs.Bounds.{LogValue}
use Rattle.epochs.specs.declared.unit.Unit.{Unit as LogUnit}
use Rattle.images.specs.Table.{versions}
use Rattle.images.proofs.Rows.{row_rises, versions_before}
use Rattle.images.proofs.versions.Versions.before.Goals as goal

pub row-row-requires-clause-rising : goal.row-row-requires-clause-rising
row-row-requires-clause-rising c = c.self.invariant.rising

pub row-row-requires-clause-starts : goal.row-row-requires-clause-starts
row-row-requires-clause-starts c = c.self.invariant.starts

pub row-row-requires-clause-number : goal.row-row-requires-clause-number
row-row-requires-clause-number c =
    let device = c.self.invariant.bounds.device in
    let same = ap (λ (l : LogValue). l.sectors) c.self.view_is in
    omega (arith, c.requires.number, device, same)

pub count_before-requires : goal.count_before-requires
count_before-requires c =
    let log = c.self.inside.log.now in
    let row = c.row-row.ensures ∙ c.self.invariant.filled c.args.number in
    let P : List LogUnit → Type 0 = λ us. IsNonDecreasingBy (λ (u : LogUnit). u.entry) us in
    subst P (sym row) (row_rises log.entries (length log.entries) c.args.number (omega arith))

pub returns : goal.returns
returns c =
    let log = c.self.inside.log.now in
    let long = ap (λ (l : LogValue). length l.entries) c.self.view_is in
    let cut = c.requires.cut in
    let row = c.row-row.ensures ∙ c.self.invariant.filled c.args.number in
    versions_before log.entries (length log.entries) c.args.cut c.args.number c.count_before.result _ row (omega (arith, long, cut)) (omega arith)
    c.count_before.ensures.bound c.count_before.ensures.before c.count_before.ensures.beyond
    ∙ ap (λ (l : LogValue). versions l.entries c.args.cut c.args.number) c.self.view_is
