use Rattle.std.proofs.Common.{◌≡◌, ◌⊎◌, length, [], ◌∙◌, ap, refl, arith}
use Rattle.std.proofs.lemmas.Option.{MatchOption-at_none}
use Rattle.logfmt.specs.Bounds.{LogValue}
use Rattle.logfmt.specs.Initial.{initial_sector}
use Rattle.epochs.specs.Units.{unit_content}
use Rattle.epochs.proofs.Contents.{unit_is_sector}
use Rattle.cases.specs.Rows.{row}
use Rattle.cases.specs.Table.{IsNext}
use Rattle.cases.proofs.Lending.{below_start, below_gone, below_whole, below_none}
use Rattle.cases.proofs.cut.Cut.lent.Goals as goal

pub row-init : goal.row-init
row-init c = below_start c.args.self.now c.args.number c.args.sets.now c.number-cut.result c.number-cut.ensures.value

pub row-preserved : goal.row-preserved
row-preserved c =
    below_gone c.args.self.now c.args.number c.args.sets.now c.row.cut c.in-Some.unit (let v = c.number-cut.ensures.value in let w = c.number-cut.ensures.within in omega (arith, v, w)) c.row.invariant c.in-Some.ensures c.in-Gone.ensures

pub returns-in-Whole : goal.returns-in-Whole
returns-in-Whole c =
    let own = c.content_of.ensures ∙ ap (λ (l : LogValue). unit_content l.entries c.in-Some.unit) c.log.ensures.value in
    below_whole c.args.self.now c.args.number c.args.sets.now c.row.cut c.in-Some.unit c.content_of.result.now c.log.ensures.within c.requires.device c.row.invariant c.in-Some.ensures c.in-Whole.ensures
    own (ap (λ (xs : _). length xs) own ∙ unit_is_sector c.args.self.now.log c.in-Some.unit c.log.ensures.bounds c.in-Some.ensures.unit)

pub returns : goal.returns
returns c =
    let at = c.args.self.now in
    below_none at c.args.number c.args.sets.now c.row.cut c.sector.result.now c.row.invariant c.requires.device
    (c.sector.ensures ∙ ap (λ initial. initial_sector initial c.args.number) (c.initial.ensures.value ∙ ap (λ (l : LogValue). l.initial) c.log-2.ensures.value)) 255 refl
    (MatchOption-at_none ((255 ≡ 0) ⊎ (row at.log.entries c.row.cut c.args.number ≡ [])) (IsNext at.log c.row.cut c.args.number) c.in_default.is c.next_wanted.ensures)
