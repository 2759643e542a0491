use Rattle.std.proofs.Common.{◌∙◌, ap, ◌++◌, ◌∷◌, [], get_or, sym, map, take, append_assoc}
use Rattle.std.proofs.lemmas.List.{take_more}
use Rattle.losses.specs.declared.found.FailingCase.{FailingCase}
use Rattle.losses.specs.FoundCases.{failing_value}
use Rattle.case_text.specs.Cured.{uncured_line}
use Rattle.case_text.proofs.Curing.{kept_next, failures_next}
use Rattle.case_text.proofs.cured.take_program.Goals as goal

pub loop-case-preserved : goal.loop-case-preserved
loop-case-preserved c =
    let at = c.args.site.now.at in
    let tears = c.args.site.now.tears in
    let program = c.args.program in
    let item = c.case-item.result in
    let more = take_more c.args.failing.now c.loop-case.case-index item c.loop-case-test.true in (
      failures_next at tears program c.args.failing.now c.loop-case.case-index (get_or c.args.failing.now c.loop-case.case-index item) item _ _ _ more c.case-item.is c.loop-case.invariant.0 c.in_ok-take_case.ensures.failures,
      kept_next (λ (f : FailingCase). uncured_line at tears program (failing_value f)) c.args.failing.now c.loop-case.case-index (get_or c.args.failing.now c.loop-case.case-index item) item _ _ _ more c.case-item.is
          c.loop-case.invariant.1 c.in_ok-take_case.ensures.uncured,
    )
