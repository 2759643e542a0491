use Rattle.losses.specs.FoundCases.{failing_value}
use Rattle.case_text.proofs.Telling.{told_is}
use Rattle.case_text.proofs.told.told_of.Goals as goal

pub returns : goal.returns
returns c =
    told_is c.args.site.now.at c.args.site.now.tears c.tears.result (failing_value c.args.case.now) c.number.result c.by.result c.parts.result.now c.as_slice.result.now
    c.read.new.self c.window-window.result _ _ c.number.ensures c.by.ensures c.tears.ensures c.parts.ensures.value c.as_slice.ensures.value c.in_ok-read.ensures c.window-window.ensures
    c.in_ok-cause.ensures c.in_ok-tail.ensures
