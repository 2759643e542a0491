use Rattle.std.proofs.Common.{arith, ◌<◌, ◌+◌, length}
use Rattle.choices.proofs.Plans.{walk_begins, walk_first, walk_room, walk_on}
use Rattle.choices.proofs.ranked.place_of.Goals as goal

pub bounds-cuts-place : goal.bounds-cuts-place
bounds-cuts-place c = walk_begins _ _ _ _ _ c.cuts-cuts.ensures.value c.requires.number

pub loop-own-init : goal.loop-own-init
loop-own-init c =
    rw c.from-rest.ensures (walk_first _ _ _ _ _ (walk_begins _ _ _ _ _ c.cuts-cuts.ensures.value c.requires.number) _ c.ways_at-own.ensures.value)

pub bounds-cuts-place-in-loop-own : goal.bounds-cuts-place-in-loop-own
bounds-cuts-place-in-loop-own c = walk_room _ _ _ _ _ _ _ _ c.loop-own.invariant c.cuts-cuts.ensures.value c.loop-own-test.true c.requires.number

pub overflow_add-place : goal.overflow_add-place
overflow_add-place c =
    let room : c.loop-own.place + 1 < length c.cuts-cuts.result.now =
    walk_room _ _ _ _ _ _ _ _ c.loop-own.invariant c.cuts-cuts.ensures.value c.loop-own-test.true c.requires.number in
    omega (arith, room)

pub offset_bounds-cuts-place-in-loop-own : goal.offset_bounds-cuts-place-in-loop-own
offset_bounds-cuts-place-in-loop-own c =
    let room : c.loop-own.place + 1 < length c.cuts-cuts.result.now =
    walk_room _ _ _ _ _ _ _ _ c.loop-own.invariant c.cuts-cuts.ensures.value c.loop-own-test.true c.requires.number in
    omega (arith, room)

pub loop-own-smaller : goal.loop-own-smaller
loop-own-smaller c =
    let room : c.loop-own.place + 1 < length c.cuts-cuts.result.now =
    walk_room _ _ _ _ _ _ _ _ c.loop-own.invariant c.cuts-cuts.ensures.value c.loop-own-test.true c.requires.number in
    omega (arith, room)

pub loop-own-preserved : goal.loop-own-preserved
loop-own-preserved c =
    walk_on _ _ _ _ _ _ _ _ c.loop-own.invariant c.cuts-cuts.ensures.value c.loop-own-test.true c.requires.number _ c.ways_at-own-in-loop-own.ensures.value
