use Rattle.std.proofs.Common.{ℕ, ◌≡◌, ◌∙◌, List, ap, length, [], rules, string_bytes, subst, sym, Vec, Global}
use Rattle.report.specs.Report.{HeadValue}
use Rattle.losses.specs.declared.flushes.counted.MissingFlush.{MissingFlush}
use Rattle.losses.specs.declared.cure.failure.Failure.{Failure}
use Rattle.runs.specs.Why.{IsMissing}
use Rattle.runs.proofs.Explained.{causes_told}
use Rattle.runs.proofs.causes.causes_text.Goals as goal

pub returns : goal.returns
returns c =
    let found = c.args.findings.now in
    let none : string_bytes c.new-out.result ≡ [] = search rules in
    let many : c.len-programs.result ≡ length c.head.inside.programs.items = search rules in
    let own = subst (λ (ms : List MissingFlush). IsMissing found.starts.now found.lines.now c.in_ok-missing.missing.failures.items ms) (sym c.as_slice-flushes.ensures.value) c.in_ok-missing.ensures in
    let are = subst (λ (fs : List Failure). IsMissing found.starts.now found.lines.now fs c.as_slice-flushes.result.now) (sym c.as_slice-failures.ensures.value) own in
    causes_told c.args.head.now found.starts.now found.lines.now c.as_slice-failures.result.now c.as_slice-flushes.result.now c.len-programs.result _ _ _ _ c.into_bytes.result.items are none
    c.in_ok-put_head.ensures c.in_ok-put_flushes.ensures c.in_ok-put_all.ensures (many ∙ ap (λ (h : HeadValue). length h.programs) c.head.view_is)
    (ap (λ (v : Vec ℕ Global). v.items) c.into_bytes.ensures.value)
