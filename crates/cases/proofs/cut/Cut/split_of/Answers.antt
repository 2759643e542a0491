use Rattle.std.proofs.Common.{◌<◌, ◌≤◌, length, refl, arith}
use Rattle.std.proofs.lemmas.Option.{slice_get_read, slice_get_within}
use Rattle.cases.specs.AtCut.{parts_of}
use Rattle.cases.proofs.Splitting.{row_shown}
use Rattle.cases.proofs.Keeping.{left_start, next_over, over_found, over_passed, over_none}
use Rattle.cases.proofs.cut.Cut.split_of.Goals as goal

pub loop-place-init : goal.loop-place-init
loop-place-init c = left_start c.args.self.now c.args.known.now c.args.sets.now c.number-cut.result c.requires.row c.number-cut.ensures.value

pub returns-then-wanted-eq0 : goal.returns-then-wanted-eq0
returns-then-wanted-eq0 c =
    row_shown c.args.self.now c.args.known.now.sector c.args.sets.now c.loop-place.wanted c.loop-place.cut c.loop-place.invariant.row (let t = c.if-wanted-eq0.true in omega (arith, t))

pub part_at-part-requires : goal.part_at-part-requires
part_at-part-requires c =
    let there = slice_get_read c.args.known.now.over.items _ c.loop-place.place c.index-over.result.now refl (let t = c.loop-place-test.true in let n = c.len-place-end.ensures in omega (arith, t, n)) c.index-over.ensures in
    let next = next_over c.args.self.now c.args.known.now.sector c.loop-place.cut c.args.known.now.over.items c.args.known.now.base c.loop-place.place c.index-over.result.now c.loop-place.invariant.over there in
    slice_get_within (parts_of c.args.self.now) c.index-over.result.now.part _ next.0.there

pub offset_bounds-sets-number : goal.offset_bounds-sets-number
offset_bounds-sets-number c =
    let within : c.index-over.result.now.part < length (parts_of c.args.self.now) = slice_get_within (parts_of c.args.self.now) c.index-over.result.now.part _ c.part_at-part.ensures in
    let here : c.index-over.result.now.part < length c.args.sets.now = omega (arith, within, c.requires.each) in
    omega (arith, here)

pub bounds-sets-number : goal.bounds-sets-number
bounds-sets-number c =
    let within : c.index-over.result.now.part < length (parts_of c.args.self.now) = slice_get_within (parts_of c.args.self.now) c.index-over.result.now.part _ c.part_at-part.ensures in
    omega (arith, within, c.requires.each)

pub returns-in-Some : goal.returns-in-Some
returns-in-Some c =
    let at = c.args.self.now in
    let le : at.cut ≤ length at.log.entries = let v = c.number-cut.ensures.value in let w = c.number-cut.ensures.within in omega (arith, v, w) in
    let there = slice_get_read c.args.known.now.over.items _ c.loop-place.place c.index-over.result.now refl (let t = c.loop-place-test.true in let n = c.len-place-end.ensures in omega (arith, t, n)) c.index-over.ensures in
    over_found at c.args.known.now c.args.sets.now c.loop-place.wanted c.loop-place.cut c.loop-place.place c.both-pieces.result _ c.part_at-part.result c.index-over.result.now
    (record { part = c.index-over.result.now.part; groups = c.in-Some.groups }) le c.requires.each c.parts-parts.ensures.apart c.loop-place.invariant there c.both-pieces.ensures c.part_at-part.ensures refl c.in-Some.ensures refl

pub loop-place-preserved : goal.loop-place-preserved
loop-place-preserved c =
    let at = c.args.self.now in
    let le : at.cut ≤ length at.log.entries = let v = c.number-cut.ensures.value in let w = c.number-cut.ensures.within in omega (arith, v, w) in
    let there = slice_get_read c.args.known.now.over.items _ c.loop-place.place c.index-over.result.now refl (let t = c.loop-place-test.true in let n = c.len-place-end.ensures in omega (arith, t, n)) c.index-over.ensures in
    over_passed at c.args.known.now c.args.sets.now c.loop-place.wanted c.loop-place.cut c.loop-place.place c.both-pieces.result _ c.left_of-wanted.result c.part_at-part.result c.index-over.result.now
    le c.requires.each c.parts-parts.ensures.apart c.loop-place.invariant there c.both-pieces.ensures c.part_at-part.ensures refl c.in_default.ensures c.left_of-wanted.ensures

pub returns : goal.returns
returns c =
    let past : length c.args.known.now.over.items ≤ c.loop-place.place =
    let t = c.loop-place-test.false in let n = c.len-place-end.ensures in omega (arith, t, n) in
    over_none c.args.self.now c.args.known.now c.args.sets.now c.loop-place.wanted c.loop-place.cut c.loop-place.place c.loop-place.invariant past
