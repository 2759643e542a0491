use Rattle.std.proofs.Common.{◌≡◌, ◌∙◌, length, ap, rules}
use Rattle.report.specs.Report.{HeadValue}
use Rattle.losses.proofs.Told.{on_ok, begun}
use Rattle.losses.proofs.cure.text.put_begin.Goals as goal

pub returns : goal.returns
returns c =
    let own : c.len.result ≡ length c.head.inside.programs.items = search rules in
    let count : c.len.result ≡ length c.args.head.now.programs = own ∙ ap (λ (h : HeadValue). length h.programs) c.head.view_is in
    on_ok c.put_programs.result _ _ c.put_programs.ensures
    (λ ends. begun c.args.head.now c.args.failures.now c.len.result _ _ _ _ c.in_ok-write.ensures.bytes c.in_ok-put_options.ensures count ends)
