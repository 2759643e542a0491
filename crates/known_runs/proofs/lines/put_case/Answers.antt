use Rattle.std.proofs.Common.{◌∙◌}
use Rattle.known_runs.proofs.Lining.{line_told}
use Rattle.known_runs.proofs.lines.put_case.Goals as goal

pub returns : goal.returns
returns c =
    line_told c.args.site.now.at c.args.site.now.tears c.tears.result c.from.result c.from-2.result c.from-3.result c.args.case.now c.by.result c.parts.result.now c.as_slice.result.now
    c.read.new.self c.window.result _ _ _ _ _ _ _ (c.from.ensures ∙ c.number.ensures) (c.from-2.ensures ∙ c.epoch.ensures) (c.from-3.ensures ∙ c.marks.ensures) c.by.ensures c.tears.ensures c.parts.ensures.value c.as_slice.ensures.value c.in_ok-read.ensures c.window.ensures
    c.in_ok-put_place.ensures c.in_ok-put_number.ensures c.in_ok-put_end.ensures c.in_ok-put_known.ensures c.in_ok-put_window.ensures c.in_ok-write.ensures.bytes
