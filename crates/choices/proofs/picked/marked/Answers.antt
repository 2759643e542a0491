use Rattle.std.proofs.Common.{sym, ◌∙◌, ap, arith, length, take}
use Rattle.std.proofs.lemmas.List.{length-take-le}
use Rattle.std.proofs.lemmas.Option.{slice_get-get_or}
use Rattle.choices.proofs.Passing.{length-marked, marked_nothing, marked_on}
use Rattle.choices.proofs.picked.marked.Goals as goal

pub loop-place-init : goal.loop-place-init
loop-place-init c = c.new-those.ensures ∙ sym (marked_nothing c.args.marks.now)

pub put_marked-requires : goal.put_marked-requires
put_marked-requires c =
    let picks = c.args.picks.now in
    let all = ap length c.loop-place.invariant in
    let few = length-marked c.args.marks.now (take c.loop-place.place picks) in
    let size = length-take-le c.loop-place.place picks (omega (arith, c.loop-place-test.true)) in
    omega (arith, all, few, size, c.loop-place-test.true, c.requires)

pub loop-place-preserved : goal.loop-place-preserved
loop-place-preserved c =
    marked_on c.args.marks.now c.args.picks.now c.loop-place.place _ _ _ _ (slice_get-get_or c.args.marks.now c.loop-place.place _ (omega (arith, c.told-marks, c.loop-place-test.true, c.requires)))
    (slice_get-get_or c.args.picks.now c.loop-place.place _ c.loop-place-test.true) c.loop-place.invariant c.put_marked.ensures
