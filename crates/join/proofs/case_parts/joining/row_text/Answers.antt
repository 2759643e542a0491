use Rattle.std.proofs.Common.{ℕ, List, ◌++◌, ◌∙◌, Some, Vec, Global, sym, ap, refl, arith}
use Rattle.join.specs.CaseTexts.{totals_line}
use Rattle.join.specs.CaseReading.{CasesRead}
use Rattle.join.specs.declared.case_parts.totals.CaseTotals.{CaseTotals}
use Rattle.join.proofs.CaseRowed.{there}
use Rattle.join.proofs.CaseJoins.{written_found}
use Rattle.join.proofs.case_parts.joining.row_text.Goals as goal

pub returns : goal.returns
returns c =
    let some = c.requires.some in
    written_found c.args.parts.now c.index-parts-0.result c.index-parts-parts.result _ _ _ _
    (there c.args.parts.now 0 c.index-parts-0.result c.requires.some ∙ ap (λ (r : CasesRead). Some r) (sym c.index-parts-0.is))
    (there c.args.parts.now _ c.index-parts-parts.result (omega (arith, some)) ∙ ap (λ (r : CasesRead). Some r) (sym c.index-parts-parts.is))
    (ap (λ (v : Vec ℕ Global). v.items) c.into_bytes-out.ensures.value ∙ c.in_ok-front.ensures.text)
    refl
    (c.as_bytes.ensures.value ∙ c.in_ok-put_totals.ensures ∙ ap (λ (bs : List ℕ). bs ++ totals_line c.in_ok-front.all c.total_of.result) c.new-end.ensures.bytes
    ∙ (λ i. totals_line (c.in_ok-front.ensures.all i) (c.total_of.ensures i)))
    (c.in_ok-extend_from_slice.ensures.items ∙ ap (λ (bs : List ℕ). bs ++ c.as_bytes.result.now) c.in_ok-put_all.ensures)
