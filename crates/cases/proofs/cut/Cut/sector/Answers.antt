use Rattle.std.proofs.Common.{◌≡◌, ◌⊎◌, [], sym, subst, ◌∙◌, ap, arith}
use Rattle.std.proofs.lemmas.Option.{MatchOption-at_none}
use Rattle.logfmt.specs.Bounds.{LogValue}
use Rattle.logfmt.specs.Initial.{initial_sector}
use Rattle.epochs.specs.Units.{unit_content}
use Rattle.cases.specs.Rows.{row}
use Rattle.cases.specs.Table.{IsNext}
use Rattle.cases.proofs.Forming.{FormSo, form_start, form_more, form_end}
use Rattle.cases.proofs.cut.Cut.sector.Goals as goal

pub row-init : goal.row-init
row-init c =
    let held = c.sector.ensures ∙ ap (λ initial. initial_sector initial c.args.number) (c.initial.ensures.value ∙ ap (λ (l : LogValue). l.initial) c.log.ensures.value) in
    subst (λ n. FormSo c.args.self.now c.args.number c.args.sets.now 255 n c.sector.result.now) (sym c.number-cut.ensures.value)
    (form_start c.args.self.now c.args.number c.args.sets.now c.sector.result.now held)

pub row-preserved : goal.row-preserved
row-preserved c =
    form_more c.args.self.now c.args.number c.args.sets.now c.row.missing c.row.cut c.row.sector c.in-Some.unit c.left_by-left.result c.without.result c.content_of.result.now c.lay.new.out
    c.log.ensures.within c.row.invariant c.in-Some.ensures (c.content_of.ensures ∙ ap (λ (l : LogValue). unit_content l.entries c.in-Some.unit) c.log-in-Some.ensures.value)
    c.left_by-left.ensures c.without.ensures c.lay.ensures (omega (arith, c.lay.array_long))

pub returns : goal.returns
returns c =
    let at = c.args.self.now in
    form_end at c.args.number c.args.sets.now c.row.missing c.row.cut c.row.sector c.row.invariant c.requires.device
    (MatchOption-at_none ((c.row.missing ≡ 0) ⊎ (row at.log.entries c.row.cut c.args.number ≡ [])) (IsNext at.log c.row.cut c.args.number) c.in_default.is c.next_wanted.ensures)
