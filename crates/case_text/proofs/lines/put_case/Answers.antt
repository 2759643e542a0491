use Rattle.std.proofs.Common.{◌∙◌}
use Rattle.losses.specs.FoundCases.{failing_value}
use Rattle.case_text.proofs.Lining.{line_told}
use Rattle.case_text.proofs.lines.put_case.Goals as goal

pub returns : goal.returns
returns c =
    line_told c.args.site.now.at c.args.site.now.tears c.tears.result c.args.program c.from.result c.from-2.result c.from-3.result (failing_value c.args.case.now) c.by.result c.parts.result.now c.as_slice.result.now
    c.read.new.self c.window.result _ _ _ _ _ _ _ (c.from.ensures ∙ c.number.ensures) (c.from-2.ensures ∙ c.epoch.ensures) (c.from-3.ensures ∙ c.marks.ensures) c.by.ensures c.tears.ensures c.parts.ensures.value c.as_slice.ensures.value c.in_ok-read.ensures c.window.ensures
    c.in_ok-put_place.ensures c.in_ok-put_number.ensures c.in_ok-put_outcome.ensures c.in_ok-put_known.ensures c.in_ok-put_window.ensures c.in_ok-write.ensures.bytes
