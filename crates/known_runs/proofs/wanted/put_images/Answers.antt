use Rattle.known_runs.specs.Wanted.{ExportedValue}
use Rattle.known_runs.proofs.Showing.{shows_none, shows_more, shows_all}
use Rattle.known_runs.proofs.wanted.put_images.Goals as goal

pub loop-place-preserved : goal.loop-place-preserved
loop-place-preserved c =
    let e : ExportedValue = record { log = c.args.plan.now.log; way = c.args.by; views = c.args.images.now } in
    shows_more e c.args.initial.now c.loop-place.place c.args.out.now.items c.loop-place.out.items c.put_image.new.out.items c.loop-place.last c.last_with-last.result c.loop-place.count c.with-count.result
    c.in_ok-new.new c.requires.initial c.loop-place-test.true c.loop-place.invariant c.in_ok-new.ensures.text c.in_ok-new.ensures.new c.last_with-last.ensures c.with-count.ensures
