use Rattle.std.proofs.Common.{ap}
use Rattle.std.proofs.lemmas.Result.{on_ok_weaker}
use Rattle.report.specs.Report.{HeadValue}
use Rattle.runs.proofs.Explained.{head_told}
use Rattle.runs.proofs.causes.put_head.Goals as goal

pub returns : goal.returns
returns c =
    on_ok_weaker c.put_totals.result
    (λ said.
    head_told c.args.head.now c.args.lines.now c.head.inside.images _ _ _ _ c.in_ok-write.ensures.bytes c.in_ok-put_options.ensures (ap (λ (h : HeadValue). h.images) c.head.view_is) said)
    c.put_totals.ensures
