use Rattle.std.proofs.Common.{◌≡◌, ◌∙◌, [], ap, sym, rules, string_bytes, ℕ, Vec, Global}
use Rattle.report.specs.Report.{HeadValue}
use Rattle.case_page.proofs.CaseFlushes.{page_told}
use Rattle.case_page.proofs.cases_page.case_page.Goals as goal

pub returns : goal.returns
returns c =
    let none : string_bytes c.new-out.result ≡ [] = search rules in
    page_told c.args.head.now c.args.asked c.args.log.now c.args.found.now _ _ _ _ _ c.in_ok-programs.programs.items _ c.into_bytes.result.items none (search rules) (c.as_str.ensures.value ∙ c.in_ok-about.ensures)
    (c.as_slice.ensures.value ∙ ap (λ (h : HeadValue). h.programs) c.head.view_is) c.in_ok-programs.ensures c.as_slice-2.ensures.value c.in_ok-put_page.ensures
    (ap (λ (v : Vec ℕ Global). v.items) c.into_bytes.ensures.value)
