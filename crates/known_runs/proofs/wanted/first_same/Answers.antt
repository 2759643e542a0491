use Rattle.std.proofs.Common.{◌<◌, length, arith}
use Rattle.known_runs.specs.Wanted.{ExportedValue}
use Rattle.known_runs.proofs.Showing.{view_read, first_found, none_found}
use Rattle.known_runs.proofs.wanted.first_same.Goals as goal

pub returns-then-branch : goal.returns-then-branch
returns-then-branch c =
    let e : ExportedValue = record { log = c.args.plan.now.log; way = c.args.by; views = c.args.images.now } in
    let within = c.requires.place in
    let less = c.loop-other-test.true in
    let other : c.loop-other.other < length c.args.images.now = omega (arith, within, less) in
    first_found e c.args.place c.loop-other.other c.index-images-place.result c.index-images-other.result c.in_ok-is_same.field-0 c.loop-other.invariant less
    (view_read e c.args.place c.index-images-place.result within c.index-images-place.is) (view_read e c.loop-other.other c.index-images-other.result other c.index-images-other.is)
    c.in_ok-is_same.ensures c.if-branch.true

pub returns : goal.returns
returns c =
    let e : ExportedValue = record { log = c.args.plan.now.log; way = c.args.by; views = c.args.images.now } in
    none_found e c.args.place c.loop-other.other c.loop-other.invariant c.loop-other-test.false
