use Rattle.std.proofs.Common.{arith}
use Rattle.cases.specs.AtCut.{parts_of, case_of, image_of}
use Rattle.inspect.proofs.AnyTold.{bytes_more, bytes_all, count_in_case}
use Rattle.inspect.proofs.looks.any_image_command.bytes_of.Goals as goal

pub loop-number-preserved : goal.loop-number-preserved
loop-number-preserved c = λ tears.
    let at = c.args.at.now in
    let sets = c.args.sets.now in
    let long = count_in_case at tears sets in
    bytes_more (image_of at (case_of tears (parts_of at) sets)) c.loop-number.number _ _ (omega (arith, long, c.loop-number-test.true, c.sectors-number-end.ensures.value)) (c.loop-number.invariant tears) (c.in_ok-put_bytes.ensures tears)

pub returns : goal.returns
returns c = λ tears.
    let at = c.args.at.now in
    let sets = c.args.sets.now in
    let long = count_in_case at tears sets in
    bytes_all (image_of at (case_of tears (parts_of at) sets)) c.loop-number.number _ (omega (arith, long, c.loop-number.auto.number-end, c.loop-number-test.false, c.sectors-number-end.ensures.value)) (c.loop-number.invariant tears)
