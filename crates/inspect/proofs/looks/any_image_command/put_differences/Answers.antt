use Rattle.std.proofs.Common.{arith}
use Rattle.cases.specs.AtCut.{parts_of, case_of, image_of}
use Rattle.crash_text.specs.Sectors.{sector_at}
use Rattle.crash_text.proofs.Steps.{text_next}
use Rattle.inspect.proofs.AnyTold.{count_in_case}
use Rattle.inspect.proofs.AnyShown.{all_put}
use Rattle.inspect.proofs.looks.any_image_command.put_differences.Goals as goal

pub loop-number-preserved : goal.loop-number-preserved
loop-number-preserved c = λ tears.
    let at = c.args.at.now in
    let lefts = image_of at (case_of tears (parts_of at) c.args.whole.now) in
    let rights = image_of at (case_of tears (parts_of at) c.args.sets.now) in
    text_next (sector_at lefts rights) _ _ _ c.loop-number.number (c.loop-number.invariant tears) (c.in_ok-put_difference.ensures tears)

pub returns : goal.returns
returns c = λ tears.
    let at = c.args.at.now in
    let lefts = image_of at (case_of tears (parts_of at) c.args.whole.now) in
    let rights = image_of at (case_of tears (parts_of at) c.args.sets.now) in
    let long = count_in_case at tears c.args.sets.now in
    all_put lefts rights c.loop-number.number _ _ (omega (arith, long, c.loop-number.auto.number-end, c.loop-number-test.false, c.sectors-number-end.ensures.value)) (c.loop-number.invariant tears)
