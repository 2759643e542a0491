use Rattle.std.proofs.Common.{arith, map}
use Rattle.case_text.specs.Collected.{told_value}
use Rattle.case_text.proofs.Telling.{groups_next, groups_all}
use Rattle.case_text.proofs.grouped.put_groups.Goals as goal

pub loop-place-preserved : goal.loop-place-preserved
loop-place-preserved c = groups_next (map told_value c.args.told.now) c.loop-place.place _ _ _ c.loop-place.invariant c.in_ok-put_group.ensures

pub returns : goal.returns
returns c =
    let up_to = c.loop-place.auto.place-end in
    let past = c.loop-place-test.false in
    groups_all c.args.told.now c.loop-place.place _ _ (omega (arith, up_to, past)) c.loop-place.invariant
