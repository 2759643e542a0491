use Rattle.std.proofs.Common.{◌∙◌, ap, ◌++◌, get_or, string_bytes, arith}
use Rattle.std.proofs.lemmas.List.{take_more, length-take-le}
use Rattle.case_text.specs.Text.{program_cases}
use Rattle.case_text.proofs.Lining.{programs_next}
use Rattle.case_text.proofs.lines.put_programs.Goals as goal

pub loop-number-preserved : goal.loop-number-preserved
loop-number-preserved c =
    let less = c.loop-number-test.true in
    let found = c.index-programs-number.result in
    programs_next c.args.site.now.at c.args.site.now.tears c.args.programs.now c.loop-number.number (get_or c.args.programs.now c.loop-number.number found) found
    _ _ _ (take_more c.args.programs.now c.loop-number.number found less) (length-take-le c.loop-number.number c.args.programs.now (omega (arith, less))) c.index-programs-number.is c.loop-number.invariant
    (c.in_ok-put_program.ensures ∙ ap (λ fs. string_bytes c.loop-number.out ++ program_cases c.args.site.now.at c.args.site.now.tears c.loop-number.number fs) c.as_slice.ensures.value)
