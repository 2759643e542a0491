use Rattle.std.proofs.Common.{◌≡◌, ◌⊎◌, [], Some, None, sym, subst, ◌∙◌, ap, refl, inl, inr, arith}
use Rattle.std.proofs.lemmas.Option.{MatchOption-at_none}
use Rattle.cases.specs.declared.known.Over.{Over}
use Rattle.cases.specs.Rows.{row}
use Rattle.cases.specs.Table.{IsNext}
use Rattle.cases.specs.Known.{IsOver}
use Rattle.cases.proofs.Splitting.{pieces_all}
use Rattle.cases.proofs.Keeping.{KeptSo, kept_start, kept_more, kept_end, no_pieces}
use Rattle.cases.proofs.cut.Cut.row_of.Goals as goal

pub row-init : goal.row-init
row-init c = subst (λ os. KeptSo c.args.self.now c.args.sector os c.number-cut.result) (sym c.new-over.ensures.items) (kept_start c.args.self.now c.args.sector c.number-cut.result c.number-cut.ensures.value)

pub row-preserved : goal.row-preserved
row-preserved c =
    let at = c.args.self.now in
    let o : Over = record { unit = c.in-Some.unit; part = c.number_of-part.result; pieces = c.matter-pieces.result } in
    let own : IsOver at c.row.cut c.args.sector o = record {
      next = c.in-Some.ensures;
      risk = sym c.risks.ensures ∙ c.if-not-risks.false;
      there = c.number_of-part.ensures.part;
      pieces = c.matter-pieces.ensures ∙ ap (Rattle.std.proofs.Common.filter _) pieces_all;
    } in
    kept_more at c.args.sector c.row.over.items _ c.row.cut o c.row.invariant own c.in_ok-push.ensures.items

pub returns-then-not-risks : goal.returns-then-not-risks
returns-then-not-risks c =
    kept_end c.args.self.now c.args.sector c.row.over.items c.row.cut (Some c.in-Some.unit) c.row.invariant (c.in-Some.ensures, sym c.risks.ensures ∙ c.if-not-risks.true)

pub returns : goal.returns
returns c =
    let at = c.args.self.now in
    kept_end at c.args.sector c.row.over.items c.row.cut None c.row.invariant
    (no_pieces (row at.log.entries c.row.cut c.args.sector ≡ []) (MatchOption-at_none ((255 ≡ 0) ⊎ (row at.log.entries c.row.cut c.args.sector ≡ [])) (IsNext at.log c.row.cut c.args.sector) c.in_default.is c.next_wanted.ensures))
