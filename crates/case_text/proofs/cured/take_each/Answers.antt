use Rattle.std.proofs.Common.{◌∙◌, ap, ◌++◌, get_or, slice_get, string_bytes, arith}
use Rattle.std.specs.Option.{option_map, option_or}
use Rattle.std.proofs.lemmas.List.{take_more, length-take-le}
use Rattle.case_text.specs.Why.{program_failures, found_failures}
use Rattle.case_text.specs.Cured.{program_uncured, found_uncured}
use Rattle.case_text.proofs.Failures.{program_next}
use Rattle.case_text.proofs.Curing.{kept_program}
use Rattle.case_text.proofs.cured.take_each.Goals as goal

pub loop-number-preserved : goal.loop-number-preserved
loop-number-preserved c =
    let less = c.loop-number-test.true in
    let found = c.index-programs-number.result in
    let at = c.args.site.now.at in
    let tears = c.args.site.now.tears in
    let more = take_more c.args.programs.now c.loop-number.number found less in
    let long = length-take-le c.loop-number.number c.args.programs.now (omega (arith, less)) in (
      program_next (found_failures at tears) c.args.programs.now c.loop-number.number (get_or c.args.programs.now c.loop-number.number found) found _ _ _ more long c.index-programs-number.is c.loop-number.invariant.0
          (c.in_ok-take_program.ensures.failures ∙ ap (λ fs. c.loop-number.failures.items ++ program_failures at tears c.loop-number.number fs) c.as_slice.ensures.value),
      kept_program (found_uncured at tears) c.args.programs.now c.loop-number.number (get_or c.args.programs.now c.loop-number.number found) found _ _ _ more long c.index-programs-number.is c.loop-number.invariant.1
          (c.in_ok-take_program.ensures.uncured ∙ ap (λ fs. option_or (option_map string_bytes c.loop-number.uncured) (slice_get (program_uncured at tears c.loop-number.number fs) 0)) c.as_slice.ensures.value),
    )
